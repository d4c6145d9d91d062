-- Months, written YYYYMM, and the window of a book.
use Rattle.std.specs.Prelude.{ℕ, ◌+◌, ◌-◌, ◌*◌, ◌/◌, ◌%◌, Bool, ◌&&◌, ◌==◌, nat_lt, min, max, List, [], ◌∷◌, length, slice_index, Option, None, Some, if◌then◌else◌}
use Rattle.std.specs.Int.{is_in_range}
use Rattle.std.specs.Char.{is_ascii_digit}
use Rattle.std.specs.Option.{option_map}
use Rattle.std.specs.FinMap as map
use Rattle.finite_sums.specs.Maps.{Text}
use Rattle.book_rows.specs.declared.rows.Rows.{Rows}
use Rattle.book_rows.specs.declared.rows.TxRow.{TxRow}

-- a month from January 1970 to December 2199
abbrev pub is_month : ℕ → Bool
is_month n = is_in_range 1970 2199 (n / 100) && is_in_range 1 12 (n % 100)

-- the month of a transaction's day, if it has one
abbrev pub month_of_row : TxRow → Option ℕ
month_of_row x = option_map (λ day. day / 100) x.date

-- the month of a transaction, whether it is live or not
abbrev pub month_of_tx : Option TxRow → Option ℕ
month_of_tx None = None
month_of_tx (Some x) = month_of_row x

-- the number that a digit writes
abbrev pub digit_of : ℕ → Option ℕ
digit_of byte = if is_ascii_digit byte then Some (byte - 48) else None

-- a number behind another one, which so stands k times as high
abbrev pub behind : ℕ → Option ℕ → Option ℕ → Option ℕ
behind k None b = None
behind k (Some a) None = None
behind k (Some a) (Some b) = Some (k * a + b)

-- the number that the two, or the four, digits from a place on write
abbrev pub two_at : List ℕ → ℕ → Option ℕ
two_at text i = behind 10 (digit_of (slice_index text i)) (digit_of (slice_index text (i + 1)))

abbrev pub four_at : List ℕ → ℕ → Option ℕ
four_at text i = behind 100 (two_at text i) (two_at text (i + 2))

-- the number of a month, if it is one
abbrev pub month_in : Option ℕ → Option ℕ
month_in None = None
month_in (Some n) = if is_month n then Some n else None

-- the month of a budget row's id: six digits that write it, then `-`, then anything
unfoldable pub budget_month : Text → Option ℕ
budget_month id =
    if nat_lt (length id) 7 then None
    else (if slice_index id 6 == 45 then month_in (behind 100 (four_at id 0) (two_at id 4)) else None)

-- the month of a month row's id: four digits, `-` and two digits that write it
unfoldable pub month_row_month : Text → Option ℕ
month_row_month id =
    if length id == 7 then (if slice_index id 4 == 45 then month_in (behind 100 (four_at id 0) (two_at id 5)) else None)
    else None

-- the first and the last month of two spans of months
abbrev pub hull : Option (ℕ × ℕ) → Option (ℕ × ℕ) → Option (ℕ × ℕ)
hull None w = w
hull (Some v) None = Some v
hull (Some v) (Some w) = Some (min v.0 w.0, max v.1 w.1)

-- the span of a month, if there is one
abbrev pub month_span : Option ℕ → Option (ℕ × ℕ)
month_span None = None
month_span (Some m) = Some (m, m)

-- the first and the last of the months that elements have
abbrev pub span_of : {X : Type 0} → (X → Option ℕ) → List X → Option (ℕ × ℕ)
span_of month [] = None
span_of month (x ∷ xs) = hull (month_span (month x)) (span_of month xs)

-- the first and the last month with a day of a transaction, dead or alive, or in the id of a budget row or of a month row
abbrev pub window_of : Rows → Option (ℕ × ℕ)
window_of rows =
    hull (span_of (λ e. month_of_row e.1) (map.entries rows.txs))
    (hull (span_of (λ e. budget_month e.0) (map.entries rows.budgets)) (span_of (λ e. month_row_month e.0) (map.entries rows.months)))
