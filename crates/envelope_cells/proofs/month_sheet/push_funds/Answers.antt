use Rattle.std.proofs.Common.{◌≡◌, ◌++◌, ◌∷◌, [], rules, ap, ◌∙◌, to_z, of_z}
use mir.Syntax.{w128}
use mir.Val.{SFits}
use Rattle.std.proofs.lemmas.Int.{to_z-of_z}
use Rattle.envelope_cells.specs.SheetOf.{cell}
use Rattle.envelope_cells.specs.declared.name.CellKind.TheVariants.{TotalIncome, FromLastMonth, AvailableFunds, LastMonthOverspent}
use Rattle.envelope_cells.proofs.Lists.{four_more, where_ok}
use Rattle.envelope_cells.proofs.month_sheet.push_funds.Goals as goal

pub returns : goal.returns
returns c =
    let w = c.args.whole.now in
    let month = c.args.month in
    let id = c.args.empty.now in
    let items = c.args.cells.now.items in
    let fits_income : SFits w128 w.income = search rules in
    let income_is : to_z w128 (of_z w128 w.income) ≡ w.income = to_z-of_z w128 w.income fits_income in
    let fits_from_last : SFits w128 w.from_last = search rules in
    let from_last_is : to_z w128 (of_z w128 w.from_last) ≡ w.from_last = to_z-of_z w128 w.from_last fits_from_last in
    let fits_available : SFits w128 w.available = search rules in
    let available_is : to_z w128 (of_z w128 w.available) ≡ w.available = to_z-of_z w128 w.available fits_available in
    let fits_overspent : SFits w128 w.overspent = search rules in
    let overspent_is : to_z w128 (of_z w128 w.overspent) ≡ w.overspent = to_z-of_z w128 w.overspent fits_overspent in
    where_ok c.push-4.result
    (λ e. four_more items c.push.new.cells.items c.push-2.new.cells.items c.push-3.new.cells.items c.push-4.new.cells.items (cell month TotalIncome id w.income) (cell month FromLastMonth id w.from_last) (cell month AvailableFunds id w.available) (cell month LastMonthOverspent id w.overspent)
    (c.in_ok-push.ensures ∙ ap (λ z. items ++ cell month TotalIncome id z ∷ []) income_is)
    (c.in_ok-push-2.ensures ∙ ap (λ z. c.push.new.cells.items ++ cell month FromLastMonth id z ∷ []) from_last_is)
    (c.in_ok-push-3.ensures ∙ ap (λ z. c.push-2.new.cells.items ++ cell month AvailableFunds id z ∷ []) available_is)
    (e ∙ ap (λ z. c.push-3.new.cells.items ++ cell month LastMonthOverspent id z ∷ []) overspent_is))
    c.push-4.ensures
