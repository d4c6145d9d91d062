-- The days of a recurrence: raw days, the end's cut, weekend moves, occurrences, and the next one.
use Rattle.std.specs.Prelude.{◌≡◌, ℕ, zero, suc, ◌+◌, ◌-◌, ◌*◌, ◌/◌, ◌%◌, ◌<◌, ◌≤◌, Bool, true, false, ◌&&◌, ◌||◌, ◌==◌, nat_lt, nat_le, if◌then◌else◌, Option, None, Some, MatchOption, List, [], ◌∷◌}
use Rattle.std.specs.List.{list_any}
use Rattle.schedules.specs.declared.month.MonthDay.{MonthDay}
use Rattle.schedules.specs.declared.recurrence.Frequency.{Frequency}
use Rattle.schedules.specs.declared.recurrence.Frequency.TheVariants.{Daily, Weekly, Monthly, Yearly}
use Rattle.schedules.specs.declared.recurrence.Pattern.{Pattern}
use Rattle.schedules.specs.declared.recurrence.Pattern.TheVariants.{Place, Last}
use Rattle.schedules.specs.declared.recurrence.Ending.{Ending}
use Rattle.schedules.specs.declared.recurrence.Ending.TheVariants.{Never, Times, Until}
use Rattle.schedules.specs.declared.recurrence.Weekends.{Weekends}
use Rattle.schedules.specs.declared.recurrence.Weekends.TheVariants.{Stay, Before, After}
use Rattle.schedules.specs.declared.recurrence.Recurrence.{Recurrence}
use Rattle.schedules.specs.Months.{month_day, month_length, weekday}

-- what a recurrence says. Its days are numbers of days
pub record Said : Type 0 where
  pub start : ℕ
  pub frequency : Frequency
  pub interval : ℕ
  pub patterns : List Pattern
  pub weekends : Weekends
  pub ending : Ending

abbrev pub said : Recurrence → Said
said r = record { start = r.start; frequency = r.frequency; interval = r.interval; patterns = r.patterns.items; weekends = r.weekends; ending = r.ending }

-- a day that starts, and days of months
pub record Places : Type 0 where
  pub start : ℕ
  pub patterns : List Pattern

abbrev pub places : ℕ → List Pattern → Places
places start patterns = record { start = start; patterns = patterns }

-- a whole number of steps of this size
abbrev pub is_multiple : ℕ → ℕ → Bool
is_multiple step n = n % step == 0

-- a pattern's day of the month
abbrev pub is_at : MonthDay → Pattern → Bool
is_at m (Place n) = m.place == n
is_at m Last = m.place == month_length m.month

-- a day of the month that some pattern names, or the start's where there is none
abbrev pub falls_by : List Pattern → ℕ → MonthDay → Bool
falls_by [] first m = m.place == first
falls_by (p ∷ ps) _ m = list_any (is_at m) (p ∷ ps)

unfoldable pub falls_on : Places → MonthDay → Bool
falls_on r m = falls_by r.patterns (month_day r.start).place m

-- a day of the calendar from the start on, by whole steps of days
unfoldable pub is_day_step : ℕ → ℕ → ℕ → Bool
is_day_step step start d = nat_lt d 84_006 && (nat_le start d && is_multiple step (d - start))

-- a day of the calendar from the start on, on a day of the month that is meant, by whole steps of months
unfoldable pub is_month_step : ℕ → Places → ℕ → Bool
is_month_step step r d =
    nat_lt d 84_006 && (nat_le r.start d && (is_multiple step ((month_day d).month - (month_day r.start).month) && falls_on r (month_day d)))

-- a day of the calendar from the start on, in the start's month and on its day of the month, by whole steps of years
unfoldable pub is_year_step : ℕ → ℕ → ℕ → Bool
is_year_step step start d =
    nat_lt d 84_006
    && (nat_le start d
    && (is_multiple step ((month_day d).month / 12 - (month_day start).month / 12)
    && (((month_day d).month % 12 == (month_day start).month % 12) && ((month_day d).place == (month_day start).place))))

-- a raw day
abbrev pub is_raw_by : Frequency → Said → ℕ → Bool
is_raw_by Daily r d = is_day_step r.interval r.start d
is_raw_by Weekly r d = is_day_step (7 * r.interval) r.start d
is_raw_by Monthly r d = is_month_step r.interval (places r.start r.patterns) d
is_raw_by Yearly r d = is_year_step r.interval r.start d

unfoldable pub is_raw : Said → ℕ → Bool
is_raw r d = is_raw_by r.frequency r d

-- how many days below n pass a test
unfoldable pub count_below : (ℕ → Bool) → ℕ → ℕ
count_below test zero = 0
count_below test (suc n) = count_below test n + (if test n then 1 else 0)

-- whether the end keeps a raw day with so many before it
abbrev pub is_within : Ending → ℕ → ℕ → Bool
is_within Never passed d = true
is_within (Times n) passed d = nat_lt passed n
is_within (Until last) passed d = nat_le d last

-- a raw day that the end keeps
unfoldable pub is_kept : Said → ℕ → Bool
is_kept r d = is_raw r d && is_within r.ending (count_below (is_raw r) d) d

-- a Saturday or Sunday moves to the Friday before or the Monday after
abbrev pub moved : Weekends → ℕ → ℕ
moved Stay d = d
moved Before d = if weekday d == 5 then d - 1 else (if weekday d == 6 then d - 2 else d)
moved After d = if weekday d == 5 then d + 2 else (if weekday d == 6 then d + 1 else d)

-- some day below n passes a test
unfoldable pub any_below : (ℕ → Bool) → ℕ → Bool
any_below test zero = false
any_below test (suc n) = test n || any_below test n

-- a kept day of the calendar moves to this one
unfoldable pub is_occurrence : Said → ℕ → Bool
is_occurrence r e = any_below (λ d. is_kept r d && (moved r.weekends d == e)) 84_006

-- the least of the `more` days from one day on that passes a test, if one does
unfoldable pub least_of : (ℕ → Bool) → ℕ → ℕ → Option ℕ
least_of test zero from = None
least_of test (suc more) from = if test from then Some from else least_of test more (from + 1)

-- the least occurrence from a day on, if there is one
unfoldable pub next_from : Said → ℕ → Option ℕ
next_from r from = least_of (is_occurrence r) (84_006 - from) from

-- ---- what the code finds on its way

-- no day from one day on and before another passes the test
abbrev pub NoneFrom : (ℕ → Bool) → ℕ → ℕ → Type 0
NoneFrom test from to = (d : ℕ) → from ≤ d → d < to → test d ≡ false

-- the first day from one day on that passes the test
pub record IsFirstFrom (test : ℕ → Bool) (from : ℕ) (n : ℕ) : Type 0 where
  pub passes : test n ≡ true
  pub reached : from ≤ n
  pub within : n < 84_006
  pub before : NoneFrom test from n

abbrev pub IsFirst : (ℕ → Bool) → ℕ → Option ℕ → Type 0
IsFirst test from o = MatchOption o ((d : ℕ) → from ≤ d → test d ≡ false) (λ n. IsFirstFrom test from n)

-- the first day of a month, from one day on, that falls on a pattern
pub record IsFirstFromIn (r : Places) (month from n : ℕ) : Type 0 where
  pub there : (month_day n).month ≡ month
  pub falls : falls_on r (month_day n) ≡ true
  pub reached : from ≤ n
  pub within : n < 84_006
  pub before : (d : ℕ) → from ≤ d → d < n → (month_day d).month ≡ month → falls_on r (month_day d) ≡ false

abbrev pub IsFirstIn : Places → ℕ → ℕ → Option ℕ → Type 0
IsFirstIn r month from o =
    MatchOption o ((d : ℕ) → from ≤ d → (month_day d).month ≡ month → falls_on r (month_day d) ≡ false)
    (λ n. IsFirstFromIn r month from n)

-- where the search for an occurrence begins: at the first day where raw days are counted, else two days before, since a move is of two days at most
abbrev pub asked_from : Ending → ℕ → ℕ
asked_from Never from = from - 2
asked_from (Times _) from = 0
asked_from (Until _) from = from - 2

-- each kept day below `at` moves to one before `from`; `passed` is at most `at`, and where raw days are counted, so many lie below it
pub record IsPast (r : Said) (from at passed : ℕ) : Type 0 where
  pub done : (d : ℕ) → d < at → is_kept r d ≡ true → moved r.weekends d < from
  pub counted : (n : ℕ) → r.ending ≡ Times n → passed ≡ count_below (is_raw r) at
  pub few : passed ≤ at
