-- Before the first month of a book's window there is nothing.
use Rattle.std.proofs.Common.{◌≡◌, ℕ, ◌+◌, ◌/◌, ◌%◌, ◌==◌, ◌<◌, ◌≤◌, Bool, true, false, Option, Some, None, zero, suc, refl, ap, sym, ◌∙◌, subst, arith, inl, inr}
use Rattle.std.specs.Prelude.{◌&&◌}
use lib.IntN.{ℤ, pos}
use Rattle.std.proofs.lemmas.Int.{ints, clamps}
use Rattle.std.proofs.lemmas.Bool.Decides.{nat_tests}
use Rattle.std.specs.FinMap.{get, entries}
use Rattle.finite_sums.specs.Sums.{only_if}
use Rattle.finite_sums.specs.Maps.{Text, value_or_zero, some_and}
use Rattle.finite_sums.proofs.MapSums.{total_same}
use Rattle.finite_sums.proofs.Texts.{text_total, text_same}
use Rattle.book_rows.specs.declared.rows.Rows.{Rows}
use Rattle.book_rows.specs.declared.rows.TxRow.{TxRow}
use Rattle.book_rows.specs.declared.rows.BudgetRow.{BudgetRow}
use Rattle.book_rows.specs.Live.{is_counted, category_of}
use Rattle.book_rows.specs.Parts.{is_text}
use Rattle.book_rows.specs.Months.{is_month, month_of_row, window_of}
use Rattle.book_rows.specs.Spans.{Spans, IsSpan}
use Rattle.book_rows.proofs.Spans.{windows_span_lem}
use Rattle.book_rows.proofs.MonthIds.{budget_month_back}
use Rattle.book_rows.specs.Laws.{HasRowIn}
use Rattle.envelope_cells.specs.Budget.{Budget}
use Rattle.envelope_cells.specs.Cells.{rolled, carried_before, leftover_before}
use Rattle.book_rows.specs.Ids.{budget_id}
use Rattle.envelope_cells.specs.Ids.{month_at, month_number}
use Rattle.envelope_cells.specs.BudgetOf.{budget_of, share, category_sum}
use Rattle.envelope_cells.specs.Parts.{IsPast, sums_before}
use Rattle.envelope_cells.specs.declared.part.Past.{Past}
use Rattle.envelope_cells.proofs.Money.{total_zero}

-- ---- months
pub month_back : (m : ℕ) → 1970 ≤ m / 100 → 1 ≤ m % 100 → m % 100 ≤ 12 → month_at (month_number m) ≡ m
month_back m y l h = omega arith

pub month_rises : (k n : ℕ) → k < n → month_at k < month_at n
month_rises k n h = omega arith

-- ---- nothing counts in a month that no row has
and_false : (a b : Bool) → (a && (b && false)) ≡ false
and_false true true = refl
and_false true false = refl
and_false false b = refl

same_number : (m n : ℕ) → (m == n) ≡ true → m ≡ n
same_number m n h = grind (arith, nat_tests)

module _ (r : Rows) (month : ℕ) (none : HasRowIn r month → ⊥) where
  no_share : (c q : Text) (x : TxRow) → get r.txs q ≡ Some x → share r c month x ≡ pos 0
  no_share c q x found = by (month_of_row x) refl
    where
      stop : (m : ℕ) → month_of_row x ≡ Some m → (b : Bool) → (m == month) ≡ b → b ≡ false
      stop m e true p = absurd (none (inl (q, x, found, e ∙ ap Some (same_number m month p))))
      stop m e false p = refl

      by : (o : Option ℕ) → month_of_row x ≡ o → only_if (is_counted r x && (is_text c (category_of r x) && some_and (λ m. m == month) o)) x.amount ≡ pos 0
      by None e = ap (λ b. only_if b x.amount) (and_false (is_counted r x) (is_text c (category_of r x)))
      by (Some m) e = ap (λ t. only_if (is_counted r x && (is_text c (category_of r x) && t)) x.amount) (stop m e (m == month) refl) ∙ ap (λ b. only_if b x.amount) (and_false (is_counted r x) (is_text c (category_of r x)))

  no_sum : (c : Text) → category_sum r c month ≡ pos 0
  no_sum c = total_same text_total text_same (share r c month) (λ x. pos 0) r.txs (no_share c) ∙ total_zero (entries r.txs)

  no_row : (c : Text) → is_month month ≡ true → get r.budgets (budget_id c month) ≡ None
  no_row c valid = by (get r.budgets (budget_id c month)) refl
    where
      by : (o : Option BudgetRow) → get r.budgets (budget_id c month) ≡ o → o ≡ None
      by None e = refl
      by (Some b) e = absurd (none (inr (inl (budget_id c month, b, e, budget_month_back c month valid))))

-- ---- nothing is left of months in which there is nothing
abbrev nothing : Past
nothing = record { left = pos 0; carries = false; moved = pos 0 }

rolled_nothing : (t : Bool) (z : ℤ) → z ≡ pos 0 → rolled t z ≡ pos 0
rolled_nothing true z e = e
rolled_nothing false z e = omega (arith, ints, clamps, e)

module _ (b : Budget) (c : Text) where
  abbrev IsNothing : ℕ → Type 0
  IsNothing k = (b.category_sum c k ≡ pos 0) × (b.budgeted c k ≡ pos 0) × (b.carries c k ≡ false)

  left_nothing : (n : ℕ) → ((k : ℕ) → k < n → IsNothing k) → leftover_before b c n ≡ pos 0
  left_nothing zero h = refl
  left_nothing (suc m) h =
      let here = h m (omega arith) in
      omega (arith, ints, here.0, here.1, rolled_nothing (carried_before b c m) (leftover_before b c m) (left_nothing m (λ k l. h k (omega arith))))

  carries_nothing : (n : ℕ) → ((k : ℕ) → k < n → IsNothing k) → carried_before b c n ≡ false
  carries_nothing zero h = refl
  carries_nothing (suc m) h = (h m (omega arith)).2

  moved_nothing : (n : ℕ) → ((k : ℕ) → k < n → IsNothing k) → sums_before b c n ≡ pos 0
  moved_nothing zero h = refl
  moved_nothing (suc m) h =
      let here = h m (omega arith) in
      omega (arith, ints, here.0, moved_nothing m (λ k l. h k (omega arith)))

  is_nothing : (n : ℕ) → ((k : ℕ) → k < n → IsNothing k) → IsPast b c n nothing
  is_nothing n h = record { left = sym (left_nothing n h); carries = sym (carries_nothing n h); moved = sym (moved_nothing n h) }

valid_month : (k : ℕ) → k < 2760 → is_month (month_at k) ≡ true
valid_month k h =
    let year : month_at k / 100 ≡ 1970 + k / 12 = omega arith in
    let month : month_at k % 100 ≡ k % 12 + 1 = omega arith in
    grind (arith, nat_tests)

-- nothing is left up to a month, where no row has a month before it
pub quiet_before : (r : Rows) (n : ℕ) → n ≤ 2760 → ((k : ℕ) → k < n → HasRowIn r (month_at k) → ⊥) → (c : Text) → IsPast (budget_of r) c n nothing
quiet_before r n within none c = is_nothing (budget_of r) c n (λ k l.
    let below : k < 2760 = omega arith in
    let gone : get r.budgets (budget_id c (month_at k)) ≡ None = no_row r (month_at k) (none k l) c (valid_month k below) in
    (no_sum r (month_at k) (none k l) c, ap (value_or_zero (λ (x : BudgetRow). x.amount)) gone, ap (some_and (λ (x : BudgetRow). x.carryover)) gone))

-- nothing is left of any months, where a book has no window
pub quiet_none : (r : Rows) → None ≡ window_of r → (n : ℕ) → n ≤ 2760 → (c : Text) → IsPast (budget_of r) c n nothing
quiet_none r e n within =
    let none : (month : ℕ) → HasRowIn r month → ⊥ = subst (Spans (HasRowIn r)) (sym e) (windows_span_lem r) in
    quiet_before r n within (λ k l. none (month_at k))

pub quiet_some : (r : Rows) (span : ℕ × ℕ) → Some span ≡ window_of r → (n : ℕ) → n ≤ 2760 → ((k : ℕ) → k < n → month_at k < span.0) → (c : Text) → IsPast (budget_of r) c n nothing
quiet_some r span e n within below =
    let spans : IsSpan (HasRowIn r) span = subst (Spans (HasRowIn r)) (sym e) (windows_span_lem r) in
    quiet_before r n within (λ k l has. absurd (omega (arith, spans.from (month_at k) has, below k l)))

-- the parts of a month's number, and the months before a month
month_parts : (m : ℕ) → is_month m ≡ true → (1970 ≤ m / 100) × (1 ≤ m % 100) × (m % 100 ≤ 12)
month_parts m h = (grind (arith, nat_tests), grind (arith, nat_tests), grind (arith, nat_tests))

pub below_first : (first : ℕ) → is_month first ≡ true → (k : ℕ) → k < month_number first → month_at k < first
below_first first valid k h =
    let p = month_parts first valid in
    omega (arith, month_rises k (month_number first) h, month_back first p.0 p.1 p.2)
