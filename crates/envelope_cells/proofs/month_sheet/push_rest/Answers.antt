use Rattle.std.proofs.Common.{◌≡◌, ◌++◌, ◌∷◌, [], rules, ap, ◌∙◌, to_z, of_z}
use mir.Syntax.{w128}
use mir.Val.{SFits}
use Rattle.std.proofs.lemmas.Int.{to_z-of_z}
use Rattle.envelope_cells.specs.SheetOf.{cell}
use Rattle.envelope_cells.specs.declared.name.CellKind.TheVariants.{TotalBudgeted, Buffered, ToBudget, TotalSpent, TotalLeftover}
use Rattle.envelope_cells.proofs.Lists.{five_more, where_ok}
use Rattle.envelope_cells.proofs.month_sheet.push_rest.Goals as goal

pub returns : goal.returns
returns c =
    let w = c.args.whole.now in
    let month = c.args.month in
    let id = c.args.empty.now in
    let items = c.args.cells.now.items in
    let fits_budgeted : SFits w128 w.budgeted = search rules in
    let budgeted_is : to_z w128 (of_z w128 w.budgeted) ≡ w.budgeted = to_z-of_z w128 w.budgeted fits_budgeted in
    let fits_buffered : SFits w128 w.buffered = search rules in
    let buffered_is : to_z w128 (of_z w128 w.buffered) ≡ w.buffered = to_z-of_z w128 w.buffered fits_buffered in
    let fits_to_budget : SFits w128 w.to_budget = search rules in
    let to_budget_is : to_z w128 (of_z w128 w.to_budget) ≡ w.to_budget = to_z-of_z w128 w.to_budget fits_to_budget in
    let fits_spent : SFits w128 w.spent = search rules in
    let spent_is : to_z w128 (of_z w128 w.spent) ≡ w.spent = to_z-of_z w128 w.spent fits_spent in
    let fits_leftover : SFits w128 w.leftover = search rules in
    let leftover_is : to_z w128 (of_z w128 w.leftover) ≡ w.leftover = to_z-of_z w128 w.leftover fits_leftover in
    where_ok c.push-5.result
    (λ e. five_more items c.push.new.cells.items c.push-2.new.cells.items c.push-3.new.cells.items c.push-4.new.cells.items c.push-5.new.cells.items (cell month TotalBudgeted id w.budgeted) (cell month Buffered id w.buffered) (cell month ToBudget id w.to_budget) (cell month TotalSpent id w.spent) (cell month TotalLeftover id w.leftover)
    (c.in_ok-push.ensures ∙ ap (λ z. items ++ cell month TotalBudgeted id z ∷ []) budgeted_is)
    (c.in_ok-push-2.ensures ∙ ap (λ z. c.push.new.cells.items ++ cell month Buffered id z ∷ []) buffered_is)
    (c.in_ok-push-3.ensures ∙ ap (λ z. c.push-2.new.cells.items ++ cell month ToBudget id z ∷ []) to_budget_is)
    (c.in_ok-push-4.ensures ∙ ap (λ z. c.push-3.new.cells.items ++ cell month TotalSpent id z ∷ []) spent_is)
    (e ∙ ap (λ z. c.push-4.new.cells.items ++ cell month TotalLeftover id z ∷ []) leftover_is))
    c.push-5.ensures
