use Rattle.std.proofs.Common.{ap, sym, ◌∙◌}
use Rattle.tracking_budget.specs.Tracked.{tracked_of}
use Rattle.tracking_budget.specs.Parts.{whole_of, cells_from}
use Rattle.tracking_budget.proofs.Totals.{sheet_is}
use Rattle.tracking_budget.proofs.month_sheet.track_sheet.Goals as goal

pub returns-clause-cells : goal.returns-clause-cells
returns-clause-cells g c =
    let month = c.args.month in
    c.in_ok-cells.ensures
    ∙ ap (λ ps. cells_from month (whole_of ps) ps) (c.as_slice.ensures ∙ c.in_ok-parts.ensures.parts)
    ∙ sheet_is (tracked_of c.args.book.now.rows) c.month_number-number.result month (sym c.month_number-number.ensures.number)
