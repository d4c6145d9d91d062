use Rattle.std.proofs.Common.{◌≡◌, ◌++◌, ◌∷◌, [], rules, ap, ◌∙◌, to_z, of_z}
use mir.Syntax.{w128}
use mir.Val.{SFits}
use Rattle.std.proofs.lemmas.Int.{to_z-of_z}
use Rattle.envelope_cells.proofs.Lists.{four_more, where_ok}
use Rattle.tracking_budget.specs.SheetOf.{cell}
use Rattle.tracking_budget.specs.declared.name.TrackKind.TheVariants.{TotalIncome, TotalBudgetIncome, TotalBudgeted, TotalSpent}
use Rattle.tracking_budget.proofs.month_sheet.push_first.Goals as goal

pub returns : goal.returns
returns c =
    let w = c.args.whole.now in
    let month = c.args.month in
    let id = c.args.empty.now in
    let items = c.args.cells.now.items in
    let fits_income : SFits w128 w.income = search rules in
    let income_is : to_z w128 (of_z w128 w.income) ≡ w.income = to_z-of_z w128 w.income fits_income in
    let fits_planned : SFits w128 w.planned = search rules in
    let planned_is : to_z w128 (of_z w128 w.planned) ≡ w.planned = to_z-of_z w128 w.planned fits_planned in
    let fits_given : SFits w128 w.given = search rules in
    let given_is : to_z w128 (of_z w128 w.given) ≡ w.given = to_z-of_z w128 w.given fits_given in
    let fits_spent : SFits w128 w.spent = search rules in
    let spent_is : to_z w128 (of_z w128 w.spent) ≡ w.spent = to_z-of_z w128 w.spent fits_spent in
    where_ok c.push-4.result
    (λ e. four_more items c.push.new.cells.items c.push-2.new.cells.items c.push-3.new.cells.items c.push-4.new.cells.items (cell month TotalIncome id w.income) (cell month TotalBudgetIncome id w.planned) (cell month TotalBudgeted id w.given) (cell month TotalSpent id w.spent)
    (c.in_ok-push.ensures ∙ ap (λ z. items ++ cell month TotalIncome id z ∷ []) income_is)
    (c.in_ok-push-2.ensures ∙ ap (λ z. c.push.new.cells.items ++ cell month TotalBudgetIncome id z ∷ []) planned_is)
    (c.in_ok-push-3.ensures ∙ ap (λ z. c.push-2.new.cells.items ++ cell month TotalBudgeted id z ∷ []) given_is)
    (e ∙ ap (λ z. c.push-3.new.cells.items ++ cell month TotalSpent id z ∷ []) spent_is))
    c.push-4.ensures
