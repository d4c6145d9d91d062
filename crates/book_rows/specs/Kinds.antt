-- How the value of a column is read.
use Rattle.std.specs.Prelude.{ℕ, ◌/◌, ◌%◌, Bool, false, ◌&&◌, ℤ, pos, negsuc, Option, None, Some, if◌then◌else◌}
use Rattle.std.specs.Ordering.{int_eq}
use Rattle.std.specs.Int.{is_in_range}
use Rattle.jiff_core.specs.Calendar.{days_in_month}
use Rattle.field_values.specs.declared.value.Value.{Value}
use Rattle.field_values.specs.declared.value.Value.TheVariants.{Null, Number, Text as IsText, Other}
use Rattle.finite_sums.specs.Maps.{Text}

-- a flag is set by the number 1 alone
abbrev pub flag_of : Value → Bool
flag_of Null = false
flag_of (Number n) = int_eq n (pos 1)
flag_of (IsText t) = false
flag_of (Other t) = false

-- a number, or else 0
abbrev pub int_of : Value → ℤ
int_of Null = pos 0
int_of (Number n) = n
int_of (IsText t) = pos 0
int_of (Other t) = pos 0

-- a text, if it is one
abbrev pub text_of : Value → Option Text
text_of Null = None
text_of (Number n) = None
text_of (IsText t) = Some t
text_of (Other t) = None

-- the calendar has the day that a number YYYYMMDD writes, and it is one from 1 January 1970 to 31 December 2199
unfoldable pub is_day : ℕ → Bool
is_day n =
    is_in_range 1970 2199 (n / 10000)
    && (is_in_range 1 12 (n / 100 % 100) && is_in_range 1 (days_in_month (pos (n / 10000)) (n / 100 % 100)) (n % 100))

-- a number that writes a day, if it is one
abbrev pub day_of : Value → Option ℕ
day_of Null = None
day_of (Number (pos n)) = if is_day n then Some n else None
day_of (Number (negsuc n)) = None
day_of (IsText t) = None
day_of (Other t) = None
