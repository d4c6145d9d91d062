use Rattle.std.proofs.Common.{◌≡◌, ◌+◌, ◌*◌, ◌≤◌, ◌+ℤ◌, unsigned_abs, rules, arith, drop, to_z}
use mir.Syntax.{w128}
use mir.Val.{SFits}
use Rattle.std.proofs.lemmas.Int.{ints}
use Rattle.finite_sums.specs.Sums.{total, weight}
use Rattle.envelope_cells.proofs.Lists.{weight_here, sum_small, sum_turn}
use Rattle.dirty_cells.specs.WholeOf.{kept_of_group}
use Rattle.dirty_cells.proofs.whole.side_kept.Goals as goal

pub overflow_add-sum : goal.overflow_add-sum
overflow_add-sum c =
    let f = kept_of_group c.args.cells.now c.args.number c.args.kind c.args.income in
    let told : c.in_ok-more.more ≡ f c.group-item.result = c.in_ok-more.ensures in
    let fits : SFits w128 c.in_ok-more.more = search rules in
    let here : unsigned_abs (f c.group-item.result) ≤ weight (λ g. unsigned_abs (f g)) c.args.groups.now = weight_here (λ g. unsigned_abs (f g)) c.args.groups.now c.loop-group.group-index c.group-item.result (omega arith) c.group-item.is in
    let past : unsigned_abs (to_z w128 c.loop-group.sum-bits) ≤ 2 * weight (λ g. unsigned_abs (f g)) c.args.groups.now = sum_small f (to_z w128 c.loop-group.sum-bits) c.args.groups.now c.loop-group.group-index c.loop-group.invariant.rest in
    omega (arith, ints, here, past, told, c.requires.small)

pub loop-group-preserved : goal.loop-group-preserved
loop-group-preserved c =
    let f = kept_of_group c.args.cells.now c.args.number c.args.kind c.args.income in
    let told : c.in_ok-more.more ≡ f c.group-item.result = c.in_ok-more.ensures in
    let fits : SFits w128 c.in_ok-more.more = search rules in
    let here : unsigned_abs (f c.group-item.result) ≤ weight (λ g. unsigned_abs (f g)) c.args.groups.now = weight_here (λ g. unsigned_abs (f g)) c.args.groups.now c.loop-group.group-index c.group-item.result (omega arith) c.group-item.is in
    let past : unsigned_abs (to_z w128 c.loop-group.sum-bits) ≤ 2 * weight (λ g. unsigned_abs (f g)) c.args.groups.now = sum_small f (to_z w128 c.loop-group.sum-bits) c.args.groups.now c.loop-group.group-index c.loop-group.invariant.rest in
    let turn : (to_z w128 c.loop-group.sum-bits +ℤ f c.group-item.result) +ℤ total f (drop (c.loop-group.group-index + 1) c.args.groups.now) ≡ total f c.args.groups.now = sum_turn f (to_z w128 c.loop-group.sum-bits) (total f c.args.groups.now) c.args.groups.now c.loop-group.group-index c.group-item.result (omega arith) c.group-item.is c.loop-group.invariant.rest in
    record { rest = omega (arith, ints, here, past, turn, told, c.requires.small) }
