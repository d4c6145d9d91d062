-- What the laws say.
use Rattle.std.specs.Prelude.{◌≡◌, ◌≢◌, ◌↔◌, ◌⊎◌, ℕ, pos, ◌+◌, ◌-◌, ◌*◌, ◌/◌, ◌%◌, ◌<◌, ◌≤◌, true, [], Some, MatchOption}
use Rattle.std.specs.List.{Contains}
use Rattle.jiff_core.specs.Calendar.{days_from_civil, IsCivilDate}
use Rattle.schedules.specs.declared.recurrence.Frequency.TheVariants.{Daily, Weekly, Monthly, Yearly}
use Rattle.schedules.specs.declared.recurrence.Pattern.TheVariants.{Place, Last}
use Rattle.schedules.specs.declared.recurrence.Ending.TheVariants.{Never}
use Rattle.schedules.specs.declared.month.MonthDay.{MonthDay}
use Rattle.schedules.specs.Months.{month_length, month_start, month_day, weekday, date_of, day_in}
use Rattle.schedules.specs.Days.{Said, Places, places, is_multiple, falls_on, is_kept, moved, is_occurrence, next_from}
use Rattle.schedules.specs.Terms.{one_day}

-- a raw day that is kept moves to this day
pub record Occurs (r : Said) (e : ℕ) : Type 0 where
  pub day : ℕ
  pub kept : is_kept r day ≡ true
  pub moves : moved r.weekends day ≡ e

-- the least occurrence from a day on
pub record IsLeastFrom (r : Said) (from n : ℕ) : Type 0 where
  pub occurs : Occurs r n
  pub reached : from ≤ n
  pub least : (e : ℕ) → Occurs r e → from ≤ e → n ≤ e

-- the civil date of a day
pub record IsDateOf (d : ℕ) (m : MonthDay) : Type 0 where
  pub civil : IsCivilDate (pos (1970 + m.month / 12)) (m.month % 12 + 1) m.place
  pub number : days_from_civil (pos (1970 + m.month / 12)) (m.month % 12 + 1) m.place ≡ pos d

-- how days have months, places and dates
pub record DaysHaveDates : Type 0 where
  -- the month and the place of a day are those of its civil date
  pub civil : (d : ℕ) → d < 84_006 → IsDateOf d (month_day d)
  -- each day has one date, which writes it
  pub date : (d : ℕ) → d < 84_006 → day_in (date_of d) ≡ Some d
  -- and each date is that of the day which it writes
  pub day : (n d : ℕ) → day_in n ≡ Some d → (date_of d ≡ n) × (d < 84_006)
  -- later days have greater dates
  pub rises : (d e : ℕ) → d < e → e < 84_006 → date_of d < date_of e

-- raw days come by whole steps of so many days
abbrev pub StepsBy : Said → ℕ → Type 0
StepsBy r step = ((r.frequency ≡ Daily) × (step ≡ r.interval)) ⊎ ((r.frequency ≡ Weekly) × (step ≡ 7 * r.interval))

-- which days are occurrences
pub record OccurrencesAreTold : Type 0 where
  -- a day is one where a kept raw day moves to it
  pub occurs : (r : Said) (e : ℕ) → (is_occurrence r e ≡ true) ↔ Occurs r e
  -- the next one from a day on is the least, and there is none where there is none
  pub next : (r : Said) (from : ℕ) → MatchOption (next_from r from) ((e : ℕ) → Occurs r e → e < from) (λ n. IsLeastFrom r from n)
  -- a kept raw day from Monday to Friday is one
  pub working : (r : Said) (d : ℕ) → is_kept r d ≡ true → weekday d < 5 → Occurs r d
  -- days and weeks without an end go on: from the start on, as long as the end of 2199 is not near, one comes within a step and four days
  pub goes_on : (r : Said) (from step : ℕ) → StepsBy r step → 1 ≤ step → r.ending ≡ Never → r.start ≤ from → from + step + 4 ≤ 84_006
      → (n : ℕ) × (next_from r from ≡ Some n) × (n < from + step + 4)
  -- of one day alone, that day is the only one
  pub once : (d e : ℕ) → d < 84_006 → Occurs (one_day d) e ↔ (e ≡ d)

-- raw days come by whole steps of so many months, on these days of a month; twelve months to a year
abbrev pub StepsByMonths : Said → ℕ → Places → Type 0
StepsByMonths r step days =
    ((r.frequency ≡ Monthly) × (step ≡ r.interval) × (days ≡ places r.start r.patterns))
    ⊎ ((r.frequency ≡ Yearly) × (step ≡ 12 * r.interval) × (days ≡ places r.start []))

-- the month has a day that is meant
pub record HasMeantDay (days : Places) (month : ℕ) : Type 0 where
  pub place : ℕ
  pub first : 1 ≤ place
  pub last : place ≤ month_length month
  pub meant : falls_on days (record { month = month; place = place }) ≡ true

-- each month that comes by whole steps from the start's has a day that is meant
abbrev pub MonthsHaveDays : ℕ → Places → Type 0
MonthsHaveDays step days = (month : ℕ) → month < 2_760 → (month_day days.start).month ≤ month → is_multiple step (month - (month_day days.start).month) ≡ true → HasMeantDay days month

-- months and years without an end go on
pub record MonthsGoOn : Type 0 where
  -- from the start on, as long as the end of 2199 is not near, an occurrence comes by the second day of the month that lies a step and two months on, where
  -- each month whose turn it is has a day that is meant
  pub goes_on : (r : Said) (from step : ℕ) (days : Places) → StepsByMonths r step days → 1 ≤ r.interval → r.ending ≡ Never → r.start ≤ from → from < 84_006
      → (month_day from).month + step + 2 ≤ 2_760 → MonthsHaveDays step days
      → (n : ℕ) × (next_from r from ≡ Some n) × (n < month_start ((month_day from).month + step + 2) + 2)
  -- each month has a last day, and its first 28
  pub last : (step : ℕ) (days : Places) → Contains days.patterns Last → MonthsHaveDays step days
  pub early : (step place : ℕ) (days : Places) → 1 ≤ place → place ≤ 28 → Contains days.patterns (Place place) → MonthsHaveDays step days
  -- the day of the start is meant where none is named, and each month has it up to the 28th
  pub start : (step : ℕ) (days : Places) → days.patterns ≡ [] → (month_day days.start).place ≤ 28 → MonthsHaveDays step days
  -- and each year has it, where it is not in February
  pub years : (step : ℕ) (days : Places) → days.patterns ≡ [] → days.start < 84_006 → (month_day days.start).month % 12 ≢ 1 → 1 ≤ step → MonthsHaveDays (12 * step) days
