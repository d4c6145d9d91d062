use Rattle.std.proofs.Common.{◌≡◌, ◌+ℤ◌, ◌-ℤ◌, rules, arith, to_z, of_z, ℤ, ◌∙◌}
use mir.Syntax.{w128}
use mir.Val.{SFits}
use Rattle.std.proofs.lemmas.Int.{ints, to_z-of_z}
use Rattle.dirty_cells.proofs.whole.to_budget.Goals as goal

pub returns : goal.returns
returns c =
    let fa : SFits w128 c.args.available = search rules in
    let fb : SFits w128 c.args.overspent = search rules in
    let fc : SFits w128 c.args.budgeted = search rules in
    let fd : SFits w128 c.args.buffered = search rules in
    let a : to_z w128 (of_z w128 c.args.available) ≡ c.args.available = to_z-of_z w128 c.args.available fa in
    let b : to_z w128 (of_z w128 c.args.overspent) ≡ c.args.overspent = to_z-of_z w128 c.args.overspent fb in
    let d : to_z w128 (of_z w128 c.args.budgeted) ≡ c.args.budgeted = to_z-of_z w128 c.args.budgeted fc in
    let e : to_z w128 (of_z w128 c.args.buffered) ≡ c.args.buffered = to_z-of_z w128 c.args.buffered fd in
    let back = λ (z : ℤ). to_z w128 (of_z w128 z) in
    let fab : SFits w128 (c.args.available +ℤ c.args.overspent) = omega (arith, ints, c.requires.available, c.requires.overspent) in
    let fabc : SFits w128 ((c.args.available +ℤ c.args.overspent) +ℤ c.args.budgeted) = omega (arith, ints, c.requires.available, c.requires.overspent, c.requires.budgeted) in
    let fall : SFits w128 (((c.args.available +ℤ c.args.overspent) +ℤ c.args.budgeted) -ℤ c.args.buffered) = omega (arith, ints, c.requires.available, c.requires.overspent, c.requires.budgeted, c.requires.buffered) in
    let ab : back (back c.args.available +ℤ back c.args.overspent) ≡ c.args.available +ℤ c.args.overspent = (λ i. back (a i +ℤ b i)) ∙ to_z-of_z w128 (c.args.available +ℤ c.args.overspent) fab in
    let abc : back (back (back c.args.available +ℤ back c.args.overspent) +ℤ back c.args.budgeted) ≡ (c.args.available +ℤ c.args.overspent) +ℤ c.args.budgeted = (λ i. back (ab i +ℤ d i)) ∙ to_z-of_z w128 ((c.args.available +ℤ c.args.overspent) +ℤ c.args.budgeted) fabc in
    (λ i. back (abc i -ℤ e i)) ∙ to_z-of_z w128 (((c.args.available +ℤ c.args.overspent) +ℤ c.args.budgeted) -ℤ c.args.buffered) fall
