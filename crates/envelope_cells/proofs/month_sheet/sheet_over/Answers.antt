use Rattle.std.proofs.Common.{◌++◌, rules, ap, ◌∙◌, to_z, of_z}
use mir.Syntax.{w64}
use mir.Val.{SFits}
use Rattle.std.proofs.lemmas.Int.{to_z-of_z}
use Rattle.envelope_cells.specs.BudgetOf.{budget_of, groups_of}
use Rattle.envelope_cells.specs.SheetOf.{month_cells, groups_cells}
use Rattle.envelope_cells.proofs.Parts.{made, has_all_money}
use Rattle.envelope_cells.proofs.month_sheet.sheet_over.Goals as goal

pub returns-clause-cells : goal.returns-clause-cells
returns-clause-cells g c =
    let r = c.args.book.now.rows in
    let b = budget_of r in
    let month = c.args.month in
    let fits : SFits w64 c.in_ok-held.held = search rules in
    c.in_ok-cells.ensures
    ∙ made b month c.month_number-number.result c.as_slice.result.now (c.as_slice.ensures ∙ c.in_ok-parts.ensures.parts) (to_z w64 (of_z w64 c.in_ok-held.held)) (to_z-of_z w64 c.in_ok-held.held fits ∙ c.in_ok-held.ensures)
    ∙ ap (λ m. month_cells b month m ++ groups_cells b month m (groups_of r)) c.month_number-number.ensures.number

pub returns-clause-money : goal.returns-clause-money
returns-clause-money g c =
    let r = c.args.book.now.rows in
    let b = budget_of r in
    let month = c.args.month in
    let fits : SFits w64 c.in_ok-held.held = search rules in
    has_all_money r month c.in_ok-cells.cells
    (c.in_ok-cells.ensures
    ∙ made b month c.month_number-number.result c.as_slice.result.now (c.as_slice.ensures ∙ c.in_ok-parts.ensures.parts) (to_z w64 (of_z w64 c.in_ok-held.held)) (to_z-of_z w64 c.in_ok-held.held fits ∙ c.in_ok-held.ensures)
    ∙ ap (λ m. month_cells b month m ++ groups_cells b month m (groups_of r)) c.month_number-number.ensures.number)
