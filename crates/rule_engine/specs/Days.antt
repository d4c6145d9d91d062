-- Days as texts, and how far they are apart.
use Rattle.std.specs.Prelude.{ℕ, ◌+◌, ◌*◌, ◌-◌, ◌/◌, ◌%◌, nat_le, ◌==◌, Bool, ◌&&◌, ℤ, pos, ◌-ℤ◌, unsigned_abs, length, slice_index, Option, Some, None, if◌then◌else◌}
use Rattle.jiff_core.specs.Calendar.{days_from_civil}
use Rattle.finite_sums.specs.Maps.{Text}
use Rattle.book_rows.specs.Kinds.{is_day}

abbrev pub is_digit : ℕ → Bool
is_digit b = nat_le 48 b && nat_le b 57

-- YYYY-MM-DD
unfoldable pub has_form : Text → Bool
has_form t =
    (length t == 10) && is_digit (slice_index t 0) && is_digit (slice_index t 1) && is_digit (slice_index t 2) && is_digit (slice_index t 3)
    && (slice_index t 4 == 45) && is_digit (slice_index t 5) && is_digit (slice_index t 6)
    && (slice_index t 7 == 45) && is_digit (slice_index t 8) && is_digit (slice_index t 9)

-- the digit at a place
abbrev pub digit : Text → ℕ → ℕ
digit t i = slice_index t i - 48

-- the digits of a text of that form, as a number YYYYMMDD
unfoldable pub digits_number : Text → ℕ
digits_number t =
    digit t 0 * 10_000_000 + digit t 1 * 1_000_000 + digit t 2 * 100_000 + digit t 3 * 10_000 + digit t 5 * 1_000 + digit t 6 * 100
    + digit t 8 * 10 + digit t 9

-- the day that a text writes, where it writes one from 1970 to 2199
unfoldable pub day_of_text : Text → Option ℕ
day_of_text t = if has_form t && is_day (digits_number t) then Some (digits_number t) else None

-- the number of a day YYYYMMDD: 0 is 1 January 1970
unfoldable pub day_number : ℕ → ℤ
day_number n = days_from_civil (pos (n / 10000)) (n / 100 % 100) (n % 100)

-- its number, where it is a day from 1970 to 2199
abbrev pub numbered : ℕ → Option ℤ
numbered n = if is_day n then Some (day_number n) else None

-- both are days, and they are at most so many days apart
abbrev pub are_within : ℕ → ℕ → ℕ → Bool
are_within most a b = is_day a && (is_day b && nat_le (unsigned_abs (day_number a -ℤ day_number b)) most)
