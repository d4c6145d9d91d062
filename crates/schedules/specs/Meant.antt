-- A table of the days of a month that are meant.
use Rattle.std.specs.Prelude.{◌≡◌, ℕ, ◌≤◌, ◌&&◌, ◌||◌, ◌==◌, Bool, false, List, slice_index_or}
use Rattle.std.specs.List.{list_any}
use Rattle.schedules.specs.declared.month.MonthDay.{MonthDay}
use Rattle.schedules.specs.declared.meant.MeantDays.{MeantDays}
use Rattle.schedules.specs.declared.recurrence.Pattern.{Pattern}
use Rattle.schedules.specs.Months.{month_length}
use Rattle.schedules.specs.Days.{Said, Places, places, falls_on, is_at}

-- the table has a day: by its place, or as the last one of its month
abbrev pub means_by : List Bool → Bool → MonthDay → Bool
means_by named last m = slice_index_or named m.place false || (last && m.place == month_length m.month)

abbrev pub means : MeantDays → MonthDay → Bool
means t m = means_by t.named t.last m

-- what a table has are the days that a test passes: no month has more than 31
abbrev pub Passes : MeantDays → (MonthDay → Bool) → Type 0
Passes t test = (m : MonthDay) → m.place ≤ 31 → means t m ≡ test m

abbrev pub MeansPlace : MeantDays → ℕ → Type 0
MeansPlace t place = Passes t (λ m. m.place == place)

abbrev pub MeansAny : MeantDays → List Pattern → Type 0
MeansAny t patterns = Passes t (λ m. list_any (is_at m) patterns)

abbrev pub Means : MeantDays → Places → Type 0
Means t r = Passes t (falls_on r)

-- of a recurrence
abbrev pub MeansOf : MeantDays → Said → Type 0
MeansOf t r = Means t (places r.start r.patterns)
