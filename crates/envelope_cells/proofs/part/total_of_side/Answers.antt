use Rattle.std.proofs.Common.{◌≡◌, ◌+◌, ◌*◌, ◌≤◌, ◌+ℤ◌, Bool, true, false, unsigned_abs, rules, arith, drop, to_z, ap}
use mir.Syntax.{w128}
use mir.Val.{SFits}
use Rattle.std.proofs.lemmas.Int.{ints}
use lib.IntN.{ℤ}
use Rattle.std.proofs.Common.{ℕ}
use Rattle.finite_sums.specs.Sums.{total, weight, only_if}
use Rattle.envelope_cells.specs.declared.part.GroupParts.{GroupParts}
use Rattle.envelope_cells.specs.declared.part.Pick.{Pick}
use Rattle.envelope_cells.specs.Parts.{picked, part_weight, is_side, group_total}
use Rattle.envelope_cells.proofs.Lists.{weight_here, total_within, sum_within, sum_turn, sum_ended}
use Rattle.envelope_cells.proofs.part.total_of_side.Goals as goal

abbrev amount : Pick → Bool → GroupParts → ℤ
amount k t g = only_if (is_side t g) (group_total k g)

abbrev weight_of : Pick → GroupParts → ℕ
weight_of k g = weight (part_weight k) g.parts

amount_small : (k : Pick) (t : Bool) (g : GroupParts) → unsigned_abs (amount k t g) ≤ weight_of k g
amount_small k t g = by (is_side t g) (total_within (picked k) (part_weight k) g.parts (λ x. omega arith))
  where
    by : (b : Bool) → unsigned_abs (group_total k g) ≤ weight_of k g → unsigned_abs (only_if b (group_total k g)) ≤ weight_of k g
    by true h = h
    by false h = omega (arith, ints)

pub group_part-sum-requires : goal.group_part-sum-requires
group_part-sum-requires c = omega (arith, weight_here (weight_of c.args.pick) c.args.groups.now c.loop-group.group-index c.group-item.result (omega arith) c.group-item.is, c.requires)

pub overflow_add-sum : goal.overflow_add-sum
overflow_add-sum c =
    let f = amount c.args.pick c.args.income in
    let w = weight_of c.args.pick in
    let fits : SFits w128 c.group_part-sum.result = search rules in
    let here : w c.group-item.result ≤ weight w c.args.groups.now = weight_here w c.args.groups.now c.loop-group.group-index c.group-item.result (omega arith) c.group-item.is in
    let small : unsigned_abs (f c.group-item.result) ≤ w c.group-item.result = amount_small c.args.pick c.args.income c.group-item.result in
    let past : unsigned_abs (to_z w128 c.loop-group.sum-bits) ≤ 2 * weight w c.args.groups.now = sum_within f w (amount_small c.args.pick c.args.income) (to_z w128 c.loop-group.sum-bits) c.args.groups.now c.loop-group.group-index c.loop-group.invariant in
    omega (arith, ints, here, small, past, c.group_part-sum.ensures, c.requires)

pub loop-group-preserved : goal.loop-group-preserved
loop-group-preserved c =
    let f = amount c.args.pick c.args.income in
    let w = weight_of c.args.pick in
    let fits : SFits w128 c.group_part-sum.result = search rules in
    let here : w c.group-item.result ≤ weight w c.args.groups.now = weight_here w c.args.groups.now c.loop-group.group-index c.group-item.result (omega arith) c.group-item.is in
    let small : unsigned_abs (f c.group-item.result) ≤ w c.group-item.result = amount_small c.args.pick c.args.income c.group-item.result in
    let past : unsigned_abs (to_z w128 c.loop-group.sum-bits) ≤ 2 * weight w c.args.groups.now = sum_within f w (amount_small c.args.pick c.args.income) (to_z w128 c.loop-group.sum-bits) c.args.groups.now c.loop-group.group-index c.loop-group.invariant in
    let turn : (to_z w128 c.loop-group.sum-bits +ℤ f c.group-item.result) +ℤ total f (drop (c.loop-group.group-index + 1) c.args.groups.now) ≡ total f c.args.groups.now = sum_turn f (to_z w128 c.loop-group.sum-bits) (total f c.args.groups.now) c.args.groups.now c.loop-group.group-index c.group-item.result (omega arith) c.group-item.is c.loop-group.invariant in
    omega (arith, ints, here, small, past, turn, c.group_part-sum.ensures, c.requires)

pub returns-clause-small : goal.returns-clause-small
returns-clause-small c =
    let f = amount c.args.pick c.args.income in
    let w = weight_of c.args.pick in
    let past : unsigned_abs (to_z w128 c.loop-group.sum-bits) ≤ weight w c.args.groups.now = omega (arith, ap unsigned_abs (sum_ended f (to_z w128 c.loop-group.sum-bits) (total f c.args.groups.now) c.args.groups.now c.loop-group.group-index (omega arith) c.loop-group.invariant), total_within f w c.args.groups.now (amount_small c.args.pick c.args.income)) in
    omega (arith, ints, past, c.requires)
