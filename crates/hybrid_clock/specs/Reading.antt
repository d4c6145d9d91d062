-- How a text is read as a timestamp, and why it is refused.
use Rattle.std.specs.Prelude.{ℕ, ◌+◌, ◌-◌, ◌*◌, ◌/◌, Bool, not, ◌&&◌, ◌||◌, ◌==◌, nat_lt, nat_le, if◌then◌else◌, pos, unsigned_abs, List, length, drop, zip, position, slice_index, codes, Option, None, Some, Result, Ok, Err}
use Rattle.std.specs.Int.{is_in_range}
use Rattle.std.specs.Char.{is_ascii_digit, is_ascii_alphanumeric}
use Rattle.jiff_core.specs.Calendar.{days_in_month, days_from_civil}
use Rattle.hybrid_clock.specs.declared.stamp.Stamp.{Stamp}
use Rattle.hybrid_clock.specs.declared.stamp.StampFault.{StampFault}
use Rattle.hybrid_clock.specs.declared.stamp.StampFault.TheVariants.{Length, BadByte, NoSuchMoment, BeyondWindow, ZeroNode}
use Rattle.hybrid_clock.specs.Node.{is_zeros}
use Rattle.hybrid_clock.specs.Stamp.{window}

-- the form of a text: `0` stands for a digit, `X` for a digit or a letter from `A` to `F`, `N` for any digit or letter, and any other character for itself
abbrev pub form : List ℕ
form = codes "0000-00-00T00:00:00.000Z-XXXX-NNNNNNNNNNNNNNNN"

-- whether a place of the form allows a byte: 48 is `0`, 88 is `X` and 78 is `N`
abbrev pub is_allowed : ℕ → ℕ → Bool
is_allowed place byte =
    if place == 48 then is_ascii_digit byte
    else (if place == 88 then is_ascii_digit byte || is_in_range 65 70 byte
    else (if place == 78 then is_ascii_alphanumeric byte
    else byte == place))

-- the first place whose byte the form does not allow there
unfoldable pub misfit : List ℕ → Option ℕ
misfit text = position (λ (place, byte). not (is_allowed place byte)) (zip form text)

-- the number that the digit at a place writes
abbrev pub digit_at : List ℕ → ℕ → ℕ
digit_at text i = slice_index text i - 48

-- the number that the two digits from a place on write
abbrev pub two_at : List ℕ → ℕ → ℕ
two_at text i = 10 * digit_at text i + digit_at text (i + 1)

-- the number that the three digits from a place on write
abbrev pub three_at : List ℕ → ℕ → ℕ
three_at text i = 10 * two_at text i + digit_at text (i + 2)

-- the number that the four digits from a place on write
abbrev pub four_at : List ℕ → ℕ → ℕ
four_at text i = 10 * three_at text i + digit_at text (i + 3)

-- the number that an upper-case hexadecimal digit writes
abbrev pub hex_value : ℕ → ℕ
hex_value byte = if is_ascii_digit byte then byte - 48 else byte - 55

-- the number that the four hexadecimal digits from a place on write
abbrev pub hex_at : List ℕ → ℕ → ℕ
hex_at text i =
    4096 * hex_value (slice_index text i) + 256 * hex_value (slice_index text (i + 1))
    + 16 * hex_value (slice_index text (i + 2)) + hex_value (slice_index text (i + 3))

-- the calendar has this date, in a year from 1970 on
abbrev pub is_date : ℕ → ℕ → ℕ → Bool
is_date year month day =
    nat_le 1970 year && (is_in_range 1 12 month && is_in_range 1 (days_in_month (pos year) month) day)

-- a day of 24 hours of 60 minutes of 60 seconds has this time
abbrev pub is_time : ℕ → ℕ → ℕ → Bool
is_time hour minute second = nat_le hour 23 && (nat_le minute 59 && nat_le second 59)

-- whether the text names a moment
unfoldable pub is_moment : List ℕ → Bool
is_moment text =
    is_date (four_at text 0) (two_at text 5) (two_at text 8)
    && is_time (two_at text 11) (two_at text 14) (two_at text 17)

-- the milliseconds from the start of 1970 to that moment
unfoldable pub millis_in : List ℕ → ℕ
millis_in text =
    86_400_000 * unsigned_abs (days_from_civil (pos (four_at text 0)) (two_at text 5) (two_at text 8))
    + 3_600_000 * two_at text 11 + 60_000 * two_at text 14 + 1000 * two_at text 17 + three_at text 20

-- the timestamp that the text writes, where it is one
abbrev pub stamp_in : List ℕ → Stamp
stamp_in text = record { millis = millis_in text; counter = hex_at text 25; node = drop 30 text }

-- a moment in the window, and then the node
abbrev pub read_moment : List ℕ → Result Stamp StampFault
read_moment text =
    if nat_lt (millis_in text / 60_000) window
    then (if is_zeros (drop 30 text) then Err ZeroNode else Ok (stamp_in text))
    else Err (BeyondWindow (millis_in text / 60_000))

-- a byte that the form does not allow at this place, or none
abbrev pub read_form : List ℕ → Option ℕ → Result Stamp StampFault
read_form text (Some at) = Err (BadByte at)
read_form text None = if is_moment text then read_moment text else Err NoSuchMoment

-- what a text is read as
unfoldable pub read_stamp : List ℕ → Result Stamp StampFault
read_stamp text = if length text == 46 then read_form text (misfit text) else Err (Length (length text))
