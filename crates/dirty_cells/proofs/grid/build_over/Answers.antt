use Rattle.std.proofs.Common.{ap, ◌∙◌, arith}
use Rattle.std.specs.FinMap.{get, get-empty}
use Rattle.envelope_cells.specs.Names.{cell_cmp}
use Rattle.envelope_cells.specs.BudgetOf.{budget_of}
use Rattle.dirty_cells.specs.Right.{none_pending}
use Rattle.dirty_cells.proofs.Covered.{quiet_kept, right_told}
use Rattle.dirty_cells.proofs.Renewed.{no_months}
use Rattle.dirty_cells.proofs.grid.build_over.Goals as goal

pub cover_months-requires-clause-quiet : goal.cover_months-requires-clause-quiet
cover_months-requires-clause-quiet g c =
    let range = c.with_window-range.result in
    quiet_kept c.args.book.now.rows range.0 range.1 range.0 c.with_window-range.ensures.window (omega (arith, c.with_window-range.ensures.order, c.with_window-range.ensures.end)) (λ l. omega arith)

pub cover_months-requires-clause-prior : goal.cover_months-requires-clause-prior
cover_months-requires-clause-prior g c = no_months c.new-cells.result (budget_of c.args.book.now.rows) c.with_window-range.result.0 none_pending

pub cover_months-requires-clause-empty : goal.cover_months-requires-clause-empty
cover_months-requires-clause-empty g c = λ q n h l m. ap (λ cells. get cells q) c.new-cells.ensures ∙ get-empty cell_cmp q

pub returns-clause-stands : goal.returns-clause-stands
returns-clause-stands g c =
    let range = c.with_window-range.result in
    record {
      sums = c.in_ok-sums.ensures.sums;
      groups = c.in_ok-groups.ensures;
      order = c.with_window-range.ensures.order;
      within = c.with_window-range.ensures.end;
      cells = right_told c.cover_months.new.cells (budget_of c.args.book.now.rows) range.0 range.1 c.with_window-range.ensures.end c.in_ok-cover_months.ensures.right
          (record { none = λ q out. c.in_ok-cover_months.ensures.others q out ∙ ap (λ cells. get cells q) c.new-cells.ensures ∙ get-empty cell_cmp q });
      window = c.with_window-range.ensures.window;
    }
