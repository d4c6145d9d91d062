use Rattle.std.proofs.Common.{◌≡◌, ℕ, ◌+◌, ◌∷◌, [], ◌++◌, map, List, sym, ap, ◌∙◌, arith, append_assoc}
use Rattle.schedules.specs.Months.{date_of}
use Rattle.schedules.specs.Days.{said}
use Rattle.schedules.proofs.Telling.{some_told}
use Rattle.schedules.proofs.Listing.{occurrences_in, goes_on, ends_late, ends_none, listed}
use Rattle.schedules.proofs.upcoming.occurrences.Goals as goal
use Rattle.schedules.proofs.upcoming.occurrences.Goals.{in-Some+then-day-to, in_default}

pub loop-day-smaller : goal.loop-day-smaller
loop-day-smaller c =
    let least = some_told (said c.args.recurrence.now) c.loop-day.from c.in-Some.day (sym c.in-Some.ensures.found) in
    omega (arith, least.reached, c.in-Some.ensures.calendar)

pub loop-day-preserved : goal.loop-day-preserved
loop-day-preserved c =
    let r = said c.args.recurrence.now in
    let dates = c.loop-day.dates.items in
    let day = c.in-Some.day in
    let to = c.day_of-to.result in
    let rest = map date_of (occurrences_in r (day + 1) to) in
    let pushed : c.push.new.self.items ≡ dates ++ date_of day ∷ [] = c.in_ok-push.ensures.items ∙ ap (λ n. dates ++ n ∷ []) c.date_of.ensures in (
      c.in-Some.ensures.past,
      λ a e.
          ap (λ (ds : List ℕ). ds ++ rest) pushed ∙ append_assoc dates (date_of day ∷ []) rest
          ∙ ap (λ ds. dates ++ map date_of ds) (sym (goes_on r c.loop-day.from day to (sym c.in-Some.ensures.found) (omega (arith, c.if-day-to.false))))
          ∙ c.loop-day.invariant.1 a e,
    )

pub returns : goal.returns
returns c =
    let r = said c.args.recurrence.now in
    let a = c.day_of-from.result in
    let to = c.day_of-to.result in
    let none : occurrences_in r c.loop-day.from to ≡ [] =
    elim c.match-search.branch [
      | in-Some+then-day-to w ↦ ends_late r c.loop-day.from w.in-Some.day to (sym w.in-Some.ensures.found) (omega (arith, w.if-day-to.true))
      | in_default w ↦ ends_none r c.loop-day.from to (sym w.in_default.ensures.found)
    ] in
    listed r c.args.first c.args.last a to c.loop-day.from c.loop-day.dates.items c.day_of-from.ensures.value c.day_of-to.ensures.value (c.loop-day.invariant.1 a c.day_of-from.ensures.value) none
