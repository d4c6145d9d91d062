-- The months that rows have are months of the calendar.
use Rattle.std.proofs.Common.{◌≡◌, inl, inr, ℕ, Bool, true, false, Option, Some, None, refl, sym, ap, ◌∙◌}
use Rattle.std.specs.Prelude.{◌/◌, ◌==◌, if◌then◌else◌, nat_lt, length, slice_index}
use Rattle.std.specs.Option.{option_map}
use Rattle.finite_sums.specs.Maps.{Text}
use Rattle.book_rows.specs.declared.rows.Rows.{Rows}
use Rattle.book_rows.specs.Book.{HaveDays}
use Rattle.book_rows.specs.Kinds.{is_day}
use Rattle.book_rows.specs.Laws.{HasRowIn}
use Rattle.book_rows.specs.Months.{is_month, month_in, behind, two_at, four_at, budget_month, month_row_month}
use Rattle.book_rows.proofs.Days.{day_month}

no_some : {P : Type 0} (m : ℕ) → None ≡ Some m → P
no_some m h = absurd (cc)

one_of : (n m : ℕ) → Some n ≡ Some m → n ≡ m
one_of n m h = cc

unless : (t : Bool) (o : Option ℕ) (m : ℕ) → (if t then None else o) ≡ Some m → o ≡ Some m
unless true o m h = no_some m h
unless false o m h = h

only : (t : Bool) (o : Option ℕ) (m : ℕ) → (if t then o else None) ≡ Some m → o ≡ Some m
only true o m h = h
only false o m h = no_some m h

in_year : (o : Option ℕ) (m : ℕ) → month_in o ≡ Some m → is_month m ≡ true
in_year None m h = no_some m h
in_year (Some n) m h = by (is_month n) refl h
  where
    by : (t : Bool) → is_month n ≡ t → (if t then Some n else None) ≡ Some m → is_month m ≡ true
    by true e k = ap is_month (sym (one_of n m k)) ∙ e
    by false e k = no_some m k

budget_told : (id : Text) (m : ℕ) → budget_month id ≡ Some m → is_month m ≡ true
unfolding budget_month
budget_told id m h =
    let o = behind 100 (four_at id 0) (two_at id 4) in
    in_year o m (only (slice_index id 6 == 45) (month_in o) m (unless (nat_lt (length id) 7) (if slice_index id 6 == 45 then month_in o else None) m h))

month_row_told : (id : Text) (m : ℕ) → month_row_month id ≡ Some m → is_month m ≡ true
unfolding month_row_month
month_row_told id m h =
    let o = behind 100 (four_at id 0) (two_at id 5) in
    in_year o m (only (slice_index id 4 == 45) (month_in o) m (only (length id == 7) (if slice_index id 4 == 45 then month_in o else None) m h))

dated_told : (o : Option ℕ) (m : ℕ) → ((day : ℕ) → o ≡ Some day → is_day day ≡ true) → option_map (λ day. day / 100) o ≡ Some m → is_month m ≡ true
dated_told None m days h = no_some m h
dated_told (Some day) m days h = ap is_month (sym (one_of _ m h)) ∙ day_month day (days day refl)

pub row_month : (rows : Rows) → HaveDays rows.txs → (m : ℕ) → HasRowIn rows m → is_month m ≡ true
row_month rows days m (inl h) = dated_told h.1.date m (λ day e. days h.0 h.1 day h.2 e) h.3
row_month rows days m (inr (inl h)) = budget_told h.0 m h.3
row_month rows days m (inr (inr h)) = month_row_told h.0 m h.3
