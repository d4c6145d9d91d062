use Rattle.schedules.proofs.Tabled.{has_none, as_told, has_place, has_far, has_last}
use Rattle.schedules.proofs.meant.named_days.Goals as goal
use Rattle.schedules.proofs.meant.named_days.Goals.{in-Place+then-place-lt32, in-Place+else-place-lt32, in-Last}

pub loop-pattern-init : goal.loop-pattern-init
loop-pattern-init c = has_none

pub loop-pattern-preserved : goal.loop-pattern-preserved
loop-pattern-preserved c =
    let named = c.loop-pattern.named in
    let last = c.loop-pattern.last in
    let ps = c.args.patterns.now in
    let i = c.loop-pattern.pattern-index in
    elim c.match-pattern.branch [
      | in-Place+then-place-lt32 w ↦ as_told w.named-is w.last-is (has_place named last ps i _ w.in-Place.place c.loop-pattern-test.true w.in-Place.is w.if-place-lt32.true c.loop-pattern.invariant)
      | in-Place+else-place-lt32 w ↦ as_told w.named-is w.last-is (has_far named last ps i _ w.in-Place.place c.loop-pattern-test.true w.in-Place.is w.if-place-lt32.false c.loop-pattern.invariant)
      | in-Last w ↦ as_told w.named-is w.last-is (has_last named last ps i _ c.loop-pattern-test.true w.in-Last.is c.loop-pattern.invariant)
    ]
