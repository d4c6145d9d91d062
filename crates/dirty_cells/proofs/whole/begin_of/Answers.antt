use Rattle.std.proofs.Common.{◌≡◌, ap, sym, ◌∙◌, arith}
use Rattle.envelope_cells.specs.BudgetOf.{budget_of}
use Rattle.envelope_cells.specs.Cells.{from_last_month}
use Rattle.dirty_cells.specs.WholeOf.{left_before}
use Rattle.dirty_cells.proofs.Totals.{quiet_left, quiet_from}
use Rattle.dirty_cells.proofs.whole.begin_of.Goals as goal

pub returns : goal.returns
returns c =
    let b = budget_of c.args.book.now.rows in
    let same : c.args.first ≡ c.args.number = omega (arith, c.requires.within, c.if-first-number.false) in
    record {
      from_last = sym (quiet_from b c.args.first c.requires.quiet) ∙ ap (from_last_month b) same;
      left = sym (quiet_left b c.args.first c.requires.quiet) ∙ ap (left_before b) same;
    }
