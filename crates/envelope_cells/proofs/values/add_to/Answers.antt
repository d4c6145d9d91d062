use Rattle.std.proofs.Common.{◌≡◌, Some, None, IsSome, refl, ap, ap₂, sym, ◌∙◌, rules, subst, to_z, of_z}
use Rattle.std.specs.Prelude.{FitsSigned, unwrap_or}
use lib.IntN.{ℤ, pos, ◌+ℤ◌}
use mir.Syntax.{w128}
use mir.Val.{SFits}
use Rattle.std.proofs.lemmas.Int.{to_z-of_z}
use Rattle.std.specs.BTreeMap as tree
use Rattle.std.specs.FinMap as map
use Rattle.finite_sums.proofs.Maps.{get_is, one_put}
use Rattle.envelope_cells.specs.Names.{cell_cmp, cells_total, cells_in}
use Rattle.envelope_cells.specs.Parts.{value_at}
use Rattle.envelope_cells.proofs.Exact.{cells_same}
use Rattle.envelope_cells.proofs.values.add_to.Goals as goal

pub overflow_add-value : goal.overflow_add-value
overflow_add-value c =
    let v = c.in-Some.value.now in
    let fits : SFits w128 v = search rules in
    let there : tree.get cell_cmp c.args.values.now c.args.name.now ≡ Some v = search rules in
    let is : value_at (cells_in c.args.values.now) c.args.name.now ≡ v = ap (λ o. unwrap_or o (pos 0)) (get_is cells_total cells_same c.args.values.now.entries c.args.name.now ∙ there) in
    subst (λ (z : ℤ). FitsSigned w128 z) (ap₂ (λ (x y : ℤ). x +ℤ y) (is ∙ sym (to_z-of_z w128 v fits)) (sym (to_z-of_z w128 c.args.amount c.ranges.amount))) c.requires

pub returns-in-Some-clause-there : goal.returns-in-Some-clause-there
returns-in-Some-clause-there c = λ _.
    let v = c.in-Some.value.now in
    let sum : ℤ = to_z w128 (of_z w128 v) +ℤ to_z w128 (of_z w128 c.args.amount) in
    let new : ℤ = to_z w128 (of_z w128 sum) in
    let fits : SFits w128 v = search rules in
    let there : tree.get cell_cmp c.args.values.now c.args.name.now ≡ Some v = search rules in
    let is : value_at (cells_in c.args.values.now) c.args.name.now ≡ v = ap (λ o. unwrap_or o (pos 0)) (get_is cells_total cells_same c.args.values.now.entries c.args.name.now ∙ there) in
    let sum_is : sum ≡ value_at (cells_in c.args.values.now) c.args.name.now +ℤ c.args.amount = ap₂ (λ (x y : ℤ). x +ℤ y) (to_z-of_z w128 v fits ∙ sym is) (to_z-of_z w128 c.args.amount c.ranges.amount) in
    let within : FitsSigned w128 sum = subst (λ (z : ℤ). FitsSigned w128 z) (sym sum_is) c.requires in
    let updates = (c.get_mut.follows.holds new).3 (subst IsSome (sym there) refl) in
    one_put cells_total cells_same c.args.values.now.entries (c.get_mut.follows.lender new).entries c.args.name.now new updates.0
    ∙ ap (map.insert (cells_in c.args.values.now) c.args.name.now) (to_z-of_z w128 sum within ∙ sum_is)

pub returns-in-None-clause-absent : goal.returns-in-None-clause-absent
returns-in-None-clause-absent c = λ _.
    let same = c.get_mut.follows.holds-at-none in
    let none : tree.get cell_cmp c.args.values.now c.args.name.now ≡ None = search rules in
    (ap cells_in same, get_is cells_total cells_same c.args.values.now.entries c.args.name.now ∙ none)
