use Rattle.std.proofs.Common.{◌≡◌, rules, to_z, of_z, true, false, ◌+ℤ◌, ◌-ℤ◌, ap, ◌∙◌}
use lib.IntN.{neg_ℤ}
use mir.Syntax.{w64, w128}
use mir.Val.{SFits}
use Rattle.std.proofs.lemmas.Int.{to_z-of_z}
use Rattle.envelope_cells.specs.Parts.{side_total}
use Rattle.envelope_cells.specs.Whole.{from_last}
use Rattle.envelope_cells.specs.declared.part.Pick.TheVariants.{Sum, Budget as OfBudget, Leftover, Taken}
use Rattle.envelope_cells.proofs.whole.whole_of.Goals as goal

pub returns : goal.returns
returns c =
    let gs = c.args.groups.now in
    let f1 : SFits w128 c.total_of_side-income.result = search rules in
    let f2 : SFits w128 c.from_last-past.result = search rules in
    let f3 : SFits w128 c.available-funds.result = search rules in
    let f4 : SFits w128 c.total_of_side-overspent.result = search rules in
    let f5 : SFits w128 c.total_of_side-budgets.result = search rules in
    let f6 : SFits w128 c.given-budgeted.result = search rules in
    let f7 : SFits w128 c.widened-buffered.result = search rules in
    let f8 : SFits w128 c.to_budget-left.result = search rules in
    let f9 : SFits w128 c.total_of_side-spent.result = search rules in
    let f10 : SFits w128 c.total_of_side-leftover.result = search rules in
    let f11 : SFits w64 c.args.held = search rules in
    let income : to_z w128 (of_z w128 c.total_of_side-income.result) ≡ side_total Sum true gs = to_z-of_z w128 c.total_of_side-income.result f1 ∙ c.total_of_side-income.ensures.value in
    let past : to_z w128 (of_z w128 c.from_last-past.result) ≡ from_last gs = to_z-of_z w128 c.from_last-past.result f2 ∙ c.from_last-past.ensures.value in
    let funds : to_z w128 (of_z w128 c.available-funds.result) ≡ side_total Sum true gs +ℤ from_last gs = to_z-of_z w128 c.available-funds.result f3 ∙ c.available-funds.ensures.value ∙ (λ i. income i +ℤ past i) in
    let overspent : to_z w128 (of_z w128 c.total_of_side-overspent.result) ≡ side_total Taken false gs = to_z-of_z w128 c.total_of_side-overspent.result f4 ∙ c.total_of_side-overspent.ensures.value in
    let budgets : to_z w128 (of_z w128 c.total_of_side-budgets.result) ≡ side_total OfBudget false gs = to_z-of_z w128 c.total_of_side-budgets.result f5 ∙ c.total_of_side-budgets.ensures.value in
    let budgeted : to_z w128 (of_z w128 c.given-budgeted.result) ≡ neg_ℤ (side_total OfBudget false gs) = to_z-of_z w128 c.given-budgeted.result f6 ∙ c.given-budgeted.ensures.value ∙ ap neg_ℤ budgets in
    let buffered : to_z w128 (of_z w128 c.widened-buffered.result) ≡ c.args.held = to_z-of_z w128 c.widened-buffered.result f7 ∙ c.widened-buffered.ensures.value ∙ to_z-of_z w64 c.args.held f11 in
    let left : to_z w128 (of_z w128 c.to_budget-left.result) ≡ (((side_total Sum true gs +ℤ from_last gs) +ℤ side_total Taken false gs) +ℤ neg_ℤ (side_total OfBudget false gs)) -ℤ c.args.held =
    to_z-of_z w128 c.to_budget-left.result f8 ∙ c.to_budget-left.ensures ∙ (λ i. ((funds i +ℤ overspent i) +ℤ budgeted i) -ℤ buffered i) in
    let spent : to_z w128 (of_z w128 c.total_of_side-spent.result) ≡ side_total Sum false gs = to_z-of_z w128 c.total_of_side-spent.result f9 ∙ c.total_of_side-spent.ensures.value in
    let leftover : to_z w128 (of_z w128 c.total_of_side-leftover.result) ≡ side_total Leftover false gs = to_z-of_z w128 c.total_of_side-leftover.result f10 ∙ c.total_of_side-leftover.ensures.value in
    λ i. record {
      income = income i;
      from_last = past i;
      available = funds i;
      overspent = overspent i;
      budgeted = budgeted i;
      buffered = buffered i;
      to_budget = left i;
      spent = spent i;
      leftover = leftover i;
    }
