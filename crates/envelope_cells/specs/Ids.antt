-- Months as numbers.
use Rattle.std.specs.Prelude.{ℕ, ◌+◌, ◌-◌, ◌*◌, ◌/◌, ◌%◌}

-- the month YYYYMM, counted from January 1970
abbrev pub month_number : ℕ → ℕ
month_number month = (month / 100 - 1970) * 12 + (month % 100 - 1)

-- the month YYYYMM of a number
abbrev pub month_at : ℕ → ℕ
month_at m = (1970 + m / 12) * 100 + (m % 12 + 1)
