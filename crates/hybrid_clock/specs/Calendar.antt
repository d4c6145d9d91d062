-- The date of a day that is counted from 1 January 1970: whole years are taken off, and then whole months.
use Rattle.std.specs.Prelude.{ℕ, zero, suc, ◌+◌, ◌-◌, nat_lt, if◌then◌else◌, pos}
use Rattle.jiff_core.specs.Calendar.{days_in_year, days_in_month}

-- a date: a year, a month from 1 on and a day of the month from 1 on
pub record Day : Type 0 where
  pub year : ℕ
  pub month : ℕ
  pub day : ℕ

-- n days after the first of a month, at most `more` months later in that year
unfoldable pub day_from_month : ℕ → ℕ → ℕ → ℕ → Day
day_from_month zero y m n = record { year = y; month = m; day = n + 1 }
day_from_month (suc more) y m n =
    if nat_lt n (days_in_month (pos y) m) then record { year = y; month = m; day = n + 1 }
    else day_from_month more y (m + 1) (n - days_in_month (pos y) m)

-- n days after 1 January of a year, at most `more` years later
unfoldable pub day_from_year : ℕ → ℕ → ℕ → Day
day_from_year zero y n = day_from_month 11 y 1 n
day_from_year (suc more) y n =
    if nat_lt n (days_in_year (pos y)) then day_from_month 11 y 1 n
    else day_from_year more (y + 1) (n - days_in_year (pos y))

-- n days after 1 January 1970, for the two hundred years that follow. Timestamps end in 2051; what speaks of later days, as books do, cites the kit's calendar alone, with which the law `date_of_number` ties these dates
abbrev pub day_of : ℕ → Day
day_of n = day_from_year 200 1970 n
