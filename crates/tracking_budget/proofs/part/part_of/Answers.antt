use Rattle.std.proofs.Common.{◌≤◌, ◌^◌, unsigned_abs, rules, arith}
use mir.Syntax.{w128}
use mir.Val.{SFits}
use Rattle.std.proofs.lemmas.Int.{ints}
use Rattle.tracking_budget.specs.Tracked.{tracked_of}
use Rattle.tracking_budget.proofs.GoingBack.{sum_now, kept_now}
use Rattle.tracking_budget.proofs.part.part_of.Goals as goal

pub own_of-requires : goal.own_of-requires
own_of-requires c =
    let fits : SFits w128 c.in_ok-seen.seen.sum = search rules in
    let small : unsigned_abs c.in_ok-seen.seen.sum ≤ 2 ^ 120 = sum_now (tracked_of c.args.book.now.rows) c.args.category.now.id c.args.number c.in_ok-seen.seen.sum c.in_ok-seen.ensures.sum c.requires.small in
    omega (arith, ints, small)

pub plus-left-requires-clause-b : goal.plus-left-requires-clause-b
plus-left-requires-clause-b c =
    let fits : SFits w128 c.in_ok-kept.kept = search rules in
    let small : unsigned_abs c.in_ok-kept.kept ≤ 2 ^ 120 = kept_now (tracked_of c.args.book.now.rows) c.args.category.now.is_income c.args.category.now.id c.args.number c.in_ok-kept.kept c.in_ok-kept.ensures c.requires.small in
    omega (arith, ints, small)
