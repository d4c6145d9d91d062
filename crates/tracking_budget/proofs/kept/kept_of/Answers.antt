use Rattle.std.proofs.Common.{rules, arith, ◌-◌, ◌∙◌}
use mir.Syntax.{w128}
use mir.Val.{SFits}
use Rattle.std.proofs.lemmas.Int.{to_z-of_z}
use Rattle.tracking_budget.specs.Tracked.{tracked_of}
use Rattle.tracking_budget.proofs.GoingBack.{ends_here, one_back, sum_within, later_within}
use Rattle.tracking_budget.proofs.kept.kept_of.Goals as goal

pub returns-then-not-seen : goal.returns-then-not-seen
returns-then-not-seen c = ends_here (tracked_of c.args.book.now.rows) c.args.is_income c.args.id.now c.args.number (c.back.at - 1) c.back.at _ c.in_ok-seen.seen (omega arith) c.back.invariant c.in_ok-seen.ensures c.if-not-seen.true

pub with_month-sum-requires-clause-later : goal.with_month-sum-requires-clause-later
with_month-sum-requires-clause-later c = later_within (tracked_of c.args.book.now.rows) c.args.is_income c.args.id.now c.args.number c.back.at _ c.back.invariant c.requires.small

pub with_month-sum-requires-clause-sum : goal.with_month-sum-requires-clause-sum
with_month-sum-requires-clause-sum c = sum_within (tracked_of c.args.book.now.rows) c.args.is_income c.args.id.now c.args.number (c.back.at - 1) c.back.at _ c.in_ok-seen.seen (omega arith) c.back.invariant c.in_ok-seen.ensures c.requires.small

pub back-preserved : goal.back-preserved
back-preserved c =
    let fits : SFits w128 c.with_month-sum.result = search rules in
    one_back (tracked_of c.args.book.now.rows) c.args.is_income c.args.id.now c.args.number (c.back.at - 1) c.back.at _ _ c.in_ok-seen.seen (omega arith) c.back.invariant c.in_ok-seen.ensures c.if-not-seen.false (to_z-of_z w128 c.with_month-sum.result fits ∙ c.with_month-sum.ensures)
