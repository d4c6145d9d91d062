-- Which days a recurrence means, and the middle of two amounts.
use Rattle.std.specs.Prelude.{◌≡◌, ◌↔◌, ◌⊎◌, ℕ, ℤ, pos, ◌+◌, ◌*◌, ◌<◌, ◌≤◌, ◌+ℤ◌, true, false, [], Some}
use Rattle.std.specs.List.{Contains}
use Rattle.schedules.specs.declared.recurrence.Frequency.TheVariants.{Daily, Weekly, Monthly, Yearly}
use Rattle.schedules.specs.declared.recurrence.Pattern.{Pattern}
use Rattle.schedules.specs.declared.recurrence.Pattern.TheVariants.{Place, Last}
use Rattle.schedules.specs.declared.recurrence.Ending.TheVariants.{Never, Times, Until}
use Rattle.schedules.specs.declared.recurrence.Weekends.TheVariants.{Stay, Before, After}
use Rattle.schedules.specs.declared.month.MonthDay.{MonthDay}
use Rattle.schedules.specs.Months.{month_length, month_day, weekday}
use Rattle.schedules.specs.Days.{Said, is_raw, is_kept, moved}
use Rattle.schedules.specs.Terms.{middle}

-- a day of a month is the one of a pattern
abbrev pub IsNamedBy : MonthDay → Pattern → Type 0
IsNamedBy m (Place n) = m.place ≡ n
IsNamedBy m Last = m.place ≡ month_length m.month

-- a day of a month is that of a pattern, or, where there is none, of the place at which the recurrence starts
abbrev pub IsMeant : Said → MonthDay → Type 0
IsMeant r m = ((r.patterns ≡ []) × (m.place ≡ (month_day r.start).place)) ⊎ ((p : Pattern) × Contains r.patterns p × IsNamedBy m p)

-- raw days are whole steps away from the start, where the interval is at least 1, and none lies before it, or behind 2199, whose last day
-- is 84,005
pub record RawDaysAreTold (r : Said) (some : 1 ≤ r.interval) : Type 0 where
  pub days : r.frequency ≡ Daily → (d : ℕ) → (is_raw r d ≡ true) ↔ ((d < 84_006) × ((k : ℕ) × (d ≡ r.start + k * r.interval)))
  pub weeks : r.frequency ≡ Weekly → (d : ℕ) → (is_raw r d ≡ true) ↔ ((d < 84_006) × ((k : ℕ) × (d ≡ r.start + k * (7 * r.interval))))
  -- by months those days of a month that are meant
  pub months : r.frequency ≡ Monthly → (d : ℕ) → (is_raw r d ≡ true)
      ↔ ((d < 84_006) × (r.start ≤ d) × ((k : ℕ) × ((month_day d).month ≡ (month_day r.start).month + k * r.interval)) × IsMeant r (month_day d))
  -- by years those of the same month and place
  pub years : r.frequency ≡ Yearly → (d : ℕ) → (is_raw r d ≡ true)
      ↔ ((d < 84_006) × (r.start ≤ d) × ((k : ℕ) × ((month_day d).month ≡ (month_day r.start).month + k * (12 * r.interval))) × ((month_day d).place ≡ (month_day r.start).place))

-- no raw day lies between two days
abbrev pub NoneBetween : Said → ℕ → ℕ → Type 0
NoneBetween r from to = (d : ℕ) → from < d → d < to → is_raw r d ≡ false

-- which raw days an end keeps, before they move
pub record EndsCut (r : Said) : Type 0 where
  pub raw : (d : ℕ) → is_kept r d ≡ true → is_raw r d ≡ true
  pub never : (d : ℕ) → r.ending ≡ Never → is_raw r d ≡ true → is_kept r d ≡ true
  pub until : (d last : ℕ) → r.ending ≡ Until last → is_raw r d ≡ true → (is_kept r d ≡ true) ↔ (d ≤ last)
  -- after so many: none; the first, where it isn't after none; and each other one where one fewer keeps the one before it
  pub none : (d : ℕ) → r.ending ≡ Times 0 → is_kept r d ≡ false
  pub first : (d n : ℕ) → is_raw r d ≡ true → ((e : ℕ) → e < d → is_raw r e ≡ false) → is_kept (record r { ending = Times (n + 1) }) d ≡ true
  pub next : (d e n : ℕ) → is_raw r d ≡ true → is_raw r e ≡ true → d < e → NoneBetween r d e
      → (is_kept (record r { ending = Times (n + 1) }) e ≡ true) ↔ (is_kept (record r { ending = Times n }) d ≡ true)

-- the last day from Monday to Friday up to a day
pub record IsWorkingBefore (d m : ℕ) : Type 0 where
  pub working : weekday m < 5
  pub up_to : m ≤ d
  pub last : (e : ℕ) → m < e → e ≤ d → 5 ≤ weekday e

-- the first one from a day on
pub record IsWorkingFrom (d m : ℕ) : Type 0 where
  pub working : weekday m < 5
  pub from : d ≤ m
  pub first : (e : ℕ) → d ≤ e → e < m → 5 ≤ weekday e

-- where days move
pub record DaysMove (d : ℕ) : Type 0 where
  pub stay : moved Stay d ≡ d
  pub before : IsWorkingBefore d (moved Before d)
  pub after : IsWorkingFrom d (moved After d)

-- the middle of two amounts: twice it is their sum, or a cent more where a half is rounded up
abbrev pub MiddlesAreRounded : Type 0
MiddlesAreRounded = (a b : ℤ) → (middle (Some a) (Some b) +ℤ middle (Some a) (Some b) ≡ a +ℤ b) ⊎ (middle (Some a) (Some b) +ℤ middle (Some a) (Some b) ≡ a +ℤ b +ℤ pos 1)
