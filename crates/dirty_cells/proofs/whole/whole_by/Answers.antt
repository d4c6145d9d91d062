use Rattle.std.proofs.Common.{◌≡◌, rules, to_z, of_z, ◌+ℤ◌, ◌-ℤ◌, ap, ◌∙◌}
use lib.IntN.{neg_ℤ}
use mir.Syntax.{w64, w128}
use mir.Val.{SFits}
use Rattle.std.proofs.lemmas.Int.{to_z-of_z}
use Rattle.dirty_cells.specs.WholeOf.{overspent_by}
use Rattle.dirty_cells.proofs.whole.whole_by.Goals as goal

pub returns : goal.returns
returns c =
    let t = c.args.totals in
    let p = c.args.begin in
    let f1 : SFits w128 t.income = search rules in
    let f2 : SFits w128 p.from_last = search rules in
    let f3 : SFits w128 t.budgets = search rules in
    let f4 : SFits w128 t.spent = search rules in
    let f5 : SFits w128 p.left = search rules in
    let f6 : SFits w128 t.leftover = search rules in
    let f7 : SFits w128 c.available-funds.result = search rules in
    let f8 : SFits w128 c.overspent-taken.result = search rules in
    let f9 : SFits w128 c.given-budgeted.result = search rules in
    let f10 : SFits w128 c.widened-buffered.result = search rules in
    let f11 : SFits w128 c.to_budget-left.result = search rules in
    let f12 : SFits w64 c.args.held = search rules in
    let income : to_z w128 (of_z w128 t.income) ≡ t.income = to_z-of_z w128 t.income f1 in
    let past : to_z w128 (of_z w128 p.from_last) ≡ p.from_last = to_z-of_z w128 p.from_last f2 in
    let budgets : to_z w128 (of_z w128 t.budgets) ≡ t.budgets = to_z-of_z w128 t.budgets f3 in
    let spent : to_z w128 (of_z w128 t.spent) ≡ t.spent = to_z-of_z w128 t.spent f4 in
    let before : to_z w128 (of_z w128 p.left) ≡ p.left = to_z-of_z w128 p.left f5 in
    let leftover : to_z w128 (of_z w128 t.leftover) ≡ t.leftover = to_z-of_z w128 t.leftover f6 in
    let funds : to_z w128 (of_z w128 c.available-funds.result) ≡ t.income +ℤ p.from_last = to_z-of_z w128 c.available-funds.result f7 ∙ c.available-funds.ensures.value ∙ (λ i. income i +ℤ past i) in
    let taken : to_z w128 (of_z w128 c.overspent-taken.result) ≡ overspent_by t p = to_z-of_z w128 c.overspent-taken.result f8 ∙ c.overspent-taken.ensures.value ∙ (λ i. ((budgets i +ℤ spent i) +ℤ before i) -ℤ leftover i) in
    let budgeted : to_z w128 (of_z w128 c.given-budgeted.result) ≡ neg_ℤ t.budgets = to_z-of_z w128 c.given-budgeted.result f9 ∙ c.given-budgeted.ensures.value ∙ ap neg_ℤ budgets in
    let buffered : to_z w128 (of_z w128 c.widened-buffered.result) ≡ c.args.held = to_z-of_z w128 c.widened-buffered.result f10 ∙ c.widened-buffered.ensures.value ∙ to_z-of_z w64 c.args.held f12 in
    let left : to_z w128 (of_z w128 c.to_budget-left.result) ≡ (((t.income +ℤ p.from_last) +ℤ overspent_by t p) +ℤ neg_ℤ t.budgets) -ℤ c.args.held =
    to_z-of_z w128 c.to_budget-left.result f11 ∙ c.to_budget-left.ensures ∙ (λ i. ((funds i +ℤ taken i) +ℤ budgeted i) -ℤ buffered i) in
    λ i. record {
      income = income i;
      from_last = past i;
      available = funds i;
      overspent = taken i;
      budgeted = budgeted i;
      buffered = buffered i;
      to_budget = left i;
      spent = spent i;
      leftover = leftover i;
    }
