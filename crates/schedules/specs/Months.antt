-- Days by month, and the dates that write them: days are numbered from 1 January 1970, and months from January 1970.
use Rattle.std.specs.Prelude.{ℕ, zero, suc, ◌+◌, ◌-◌, ◌*◌, ◌/◌, ◌%◌, nat_lt, if◌then◌else◌, pos, Option, Some, None}
use Rattle.jiff_core.specs.Calendar.{days_in_month, weekday_number}
use Rattle.book_rows.specs.Kinds.{is_day}
use Rattle.schedules.specs.declared.month.MonthDay.{MonthDay}

-- how many days a month has
unfoldable pub month_length : ℕ → ℕ
month_length m = days_in_month (pos (1970 + m / 12)) (m % 12 + 1)

-- the day number of a month's first day
unfoldable pub month_start : ℕ → ℕ
month_start zero = 0
month_start (suc m) = month_start m + month_length m

-- n days after the first day of a month, at most `more` months later
unfoldable pub month_day_from : ℕ → ℕ → ℕ → MonthDay
month_day_from zero m n = record { month = m; place = n + 1 }
month_day_from (suc more) m n =
    if nat_lt n (month_length m) then record { month = m; place = n + 1 }
    else month_day_from more (m + 1) (n - month_length m)

-- the month and the place of a day, for the 2,760 months to the end of 2199
unfoldable pub month_day : ℕ → MonthDay
month_day d = month_day_from 2760 0 d

-- the place of a day in its week, from 0 for Monday
abbrev pub weekday : ℕ → ℕ
weekday d = weekday_number (pos d)

-- the date YYYYMMDD of a place of a month
abbrev pub written : MonthDay → ℕ
written m = (1970 + m.month / 12) * 10_000 + (m.month % 12 + 1) * 100 + m.place

-- the date YYYYMMDD of a day
abbrev pub date_of : ℕ → ℕ
date_of d = written (month_day d)

-- the month of a number YYYYMMDD
abbrev pub month_in : ℕ → ℕ
month_in n = (n / 10_000 - 1970) * 12 + n / 100 % 100 - 1

-- the day that a number YYYYMMDD writes, if it writes one
unfoldable pub day_in : ℕ → Option ℕ
day_in n = if is_day n then Some (month_start (month_in n) + n % 100 - 1) else None
