use Rattle.std.proofs.Common.{◌≡◌, ◌+ℤ◌, ◌-ℤ◌, rules, arith, to_z, of_z, ℤ, ◌∙◌}
use mir.Syntax.{w128}
use mir.Val.{SFits}
use Rattle.std.proofs.lemmas.Int.{ints, to_z-of_z}
use Rattle.dirty_cells.proofs.whole.overspent.Goals as goal

pub returns-clause-value : goal.returns-clause-value
returns-clause-value c =
    let fa : SFits w128 c.args.budgets = search rules in
    let fb : SFits w128 c.args.spent = search rules in
    let fc : SFits w128 c.args.left = search rules in
    let fd : SFits w128 c.args.leftover = search rules in
    let a : to_z w128 (of_z w128 c.args.budgets) ≡ c.args.budgets = to_z-of_z w128 c.args.budgets fa in
    let b : to_z w128 (of_z w128 c.args.spent) ≡ c.args.spent = to_z-of_z w128 c.args.spent fb in
    let d : to_z w128 (of_z w128 c.args.left) ≡ c.args.left = to_z-of_z w128 c.args.left fc in
    let e : to_z w128 (of_z w128 c.args.leftover) ≡ c.args.leftover = to_z-of_z w128 c.args.leftover fd in
    let back = λ (z : ℤ). to_z w128 (of_z w128 z) in
    let fab : SFits w128 (c.args.budgets +ℤ c.args.spent) = omega (arith, ints, c.requires.budgets, c.requires.spent) in
    let fabc : SFits w128 ((c.args.budgets +ℤ c.args.spent) +ℤ c.args.left) = omega (arith, ints, c.requires.budgets, c.requires.spent, c.requires.left) in
    let fall : SFits w128 (((c.args.budgets +ℤ c.args.spent) +ℤ c.args.left) -ℤ c.args.leftover) = omega (arith, ints, c.requires.budgets, c.requires.spent, c.requires.left, c.requires.leftover) in
    let ab : back (back c.args.budgets +ℤ back c.args.spent) ≡ c.args.budgets +ℤ c.args.spent = (λ i. back (a i +ℤ b i)) ∙ to_z-of_z w128 (c.args.budgets +ℤ c.args.spent) fab in
    let abc : back (back (back c.args.budgets +ℤ back c.args.spent) +ℤ back c.args.left) ≡ (c.args.budgets +ℤ c.args.spent) +ℤ c.args.left = (λ i. back (ab i +ℤ d i)) ∙ to_z-of_z w128 ((c.args.budgets +ℤ c.args.spent) +ℤ c.args.left) fabc in
    (λ i. back (abc i -ℤ e i)) ∙ to_z-of_z w128 (((c.args.budgets +ℤ c.args.spent) +ℤ c.args.left) -ℤ c.args.leftover) fall
