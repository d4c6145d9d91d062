-- The next occurrence after a date.
use Rattle.std.proofs.Common.{◌≡◌, ℕ, ◌+◌, ◌≤◌, Some, None, refl, ap, arith}
use Rattle.schedules.specs.Months.{date_of, day_in}
use Rattle.schedules.specs.Days.{Said, moved, next_from}
use Rattle.schedules.specs.Upcoming.{IsOccurrence, IsNextAfter}
use Rattle.schedules.specs.Laws.{Occurs}
use Rattle.schedules.proofs.Calendar.{by_lt}
use Rattle.schedules.proofs.Dating.{date_back, date_rises, date_from}
use Rattle.schedules.proofs.Telling.{occurs_within, some_told, none_told}

-- an occurrence, and its date
pub with_date : (r : Said) (e : ℕ) → Occurs r e → IsOccurrence r (date_of e)
with_date r e o = record { day = o.day; kept = o.kept; moves = ap date_of o.moves }

pub its_day : (r : Said) (n : ℕ) (o : IsOccurrence r n) → Occurs r (moved r.weekends o.day)
its_day r n o = record { day = o.day; kept = o.kept; moves = refl }

pub next_date : (r : Said) (after a d : ℕ) → day_in after ≡ Some a → next_from r (a + 1) ≡ Some d → IsNextAfter r after (date_of d)
next_date r after a d here e =
    let least = some_told r (a + 1) d e in
    let back = date_back after a here in
    let within = occurs_within r d least.occurs in
    record {
      occurs = with_date r d least.occurs;
      above = omega (arith, date_rises a d (omega (arith, least.reached)) within, back.0);
      least = λ n o late.
          let day = moved r.weekends o.day in
          let is = its_day r n o in
          let there = occurs_within r day is in
          let moves = o.moves in
          by_lt a day
          (λ lt. omega (arith, date_from d day (least.least day is (omega arith)) there, moves))
          (λ ge. absurd (omega (arith, date_from day a ge back.1, back.0, moves)));
    }

pub no_date : (r : Said) (after a : ℕ) → day_in after ≡ Some a → next_from r (a + 1) ≡ None → (n : ℕ) → IsOccurrence r n → n ≤ after
no_date r after a here e n o =
    let back = date_back after a here in
    let day = moved r.weekends o.day in
    let before = none_told r (a + 1) e day (its_day r n o) in
    let moves = o.moves in
    omega (arith, date_from day a (omega (arith, before)) back.1, back.0, moves)
