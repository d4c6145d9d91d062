use Rattle.std.proofs.Common.{ℕ, ◌+◌, ◌<◌, ◌≤◌, Some, arith, sym, ap, ◌∙◌}
use Rattle.schedules.specs.Days.{said, moved}
use Rattle.schedules.proofs.Moving.{moved_within}
use Rattle.schedules.proofs.Occurring.{past_next, past_cut, past_found, past_all}
use Rattle.schedules.proofs.Telling.{next_some, next_none}
use Rattle.schedules.proofs.upcoming.search.Goals as goal

pub returns-then-not-is_within-clause-found : goal.returns-then-not-is_within-clause-found
returns-then-not-is_within-clause-found c =
    sym (next_none (said c.args.recurrence.now) c.args.from (past_cut (said c.args.recurrence.now) c.args.from c.loop-raw.place.at c.loop-raw.place.passed c.in-Some.raw c.loop-raw.invariant c.in-Some.ensures (sym c.is_within.ensures ∙ c.if-not-is_within.true)))

pub returns-then-day-from-clause-found : goal.returns-then-day-from-clause-found
returns-then-day-from-clause-found c =
    let r = said c.args.recurrence.now in
    let day = c.moved-day.ensures in
    let above : c.args.from ≤ moved r.weekends c.in-Some.raw = omega (arith, c.if-day-from.true) in
    let found = past_found r c.args.from c.loop-raw.place.at c.loop-raw.place.passed c.in-Some.raw c.loop-raw.invariant c.in-Some.ensures (sym c.is_within.ensures ∙ c.if-not-is_within.false) above in
    ap (λ (n : ℕ). Some n) day ∙ sym (next_some r c.args.from (moved r.weekends c.in-Some.raw) found)

pub returns-then-day-from-clause-calendar : goal.returns-then-day-from-clause-calendar
returns-then-day-from-clause-calendar c =
    let day = c.moved-day.ensures in
    omega (arith, moved_within (said c.args.recurrence.now).weekends c.in-Some.raw c.in-Some.ensures.within)

pub returns-then-day-from-clause-past : goal.returns-then-day-from-clause-past
returns-then-day-from-clause-past c =
    let r = said c.args.recurrence.now in
    let day = c.moved-day.ensures in
    past_next r c.args.from c.loop-raw.place.at c.loop-raw.place.passed c.in-Some.raw (c.moved-day.result + 1) c.loop-raw.invariant c.in-Some.ensures (omega (arith, c.if-day-from.true)) (omega arith)

pub loop-raw-preserved : goal.loop-raw-preserved
loop-raw-preserved c =
    let r = said c.args.recurrence.now in
    let day = c.moved-day.ensures in
    let early : moved r.weekends c.in-Some.raw < c.args.from = omega (arith, c.if-day-from.false) in
    past_next r c.args.from c.loop-raw.place.at c.loop-raw.place.passed c.in-Some.raw c.args.from c.loop-raw.invariant c.in-Some.ensures (omega arith) early

pub returns-clause-found : goal.returns-clause-found
returns-clause-found c =
    sym (next_none (said c.args.recurrence.now) c.args.from (past_all (said c.args.recurrence.now) c.args.from c.loop-raw.place.at c.loop-raw.place.passed c.loop-raw.invariant c.in_default.ensures))
