-- The months in which a category is given something, found inside a book's window.
use Rattle.std.proofs.Common.{◌≡◌, ℕ, ◌+◌, ◌-◌, ◌/◌, ◌%◌, ◌<◌, ◌≤◌, Bool, true, false, cond, List, [], ◌∷◌, ◌++◌, filter, Option, None, Some, Ok, Err, zero, suc, refl, ap, ap₂, sym, ◌∙◌, subst, arith, inl, inr}
use lib.IntN.{ℤ, pos}
use Rattle.std.specs.Prelude.{◌&&◌, not, nat_le}
use Rattle.std.specs.Int.{is_in_range}
use Rattle.std.specs.Ordering.{int_eq}
use Rattle.std.specs.FinMap as map
use Rattle.std.proofs.lemmas.List.{append-nil}
use Rattle.std.specs.List.{range_with_len}
use Rattle.std.proofs.lemmas.Bool.{and_parts, leb-true}
use Rattle.std.proofs.lemmas.List.Elements.{filter-append}
use Rattle.finite_sums.specs.Maps.{Text, value_or_zero}
use Rattle.book_rows.specs.declared.rows.Rows.{Rows}
use Rattle.book_rows.specs.declared.rows.BudgetRow.{BudgetRow}
use Rattle.book_rows.specs.Ids.{budget_id}
use Rattle.book_rows.specs.Months.{is_month, window_of}
use Rattle.book_rows.specs.Spans.{Spans, IsSpan}
use Rattle.book_rows.specs.Laws.{HasRowIn}
use Rattle.book_rows.proofs.Spans.{windows_span_lem}
use Rattle.book_rows.specs.declared.fault.EditFault.{EditFault}
use Rattle.book_edits.specs.declared.gains.Gain.{Gain}
use Rattle.book_edits.specs.Faults.{◌>>=◌, Check, IsEditFault, each}
use Rattle.book_edits.specs.Checks.{an_amount, a_name}
use Rattle.book_edits.specs.Budgets.{budgeted}
use Rattle.book_edits.specs.Mappings.{calendar, is_given, given_months, gains, may_gain}
use Rattle.book_rows.proofs.MonthIds.{budget_month_back}

-- ---- numbers of which a test lets pass only some
range-append : (a n m : ℕ) → range_with_len a (n + m) ≡ range_with_len a n ++ range_with_len (a + n) m
range-append a zero m = ap₂ range_with_len (omega arith) (omega arith)
range-append a (suc n) m =
    let e : suc n + m ≡ suc (n + m) = omega arith in
    let f : a + 1 + n ≡ a + suc n = omega arith in
    ap (range_with_len a) e ∙ ap (λ (xs : List ℕ). a ∷ xs) (range-append (a + 1) n m ∙ ap (λ (b : ℕ). range_with_len (a + 1) n ++ range_with_len b m) f)

module _ (p : ℕ → Bool) where
  none_pass : (a n : ℕ) → ((m : ℕ) → a ≤ m → m < a + n → p m ≡ false) → filter p (range_with_len a n) ≡ []
  none_pass a zero h = refl
  none_pass a (suc n) h =
      ap (λ b. cond b (a ∷ filter p (range_with_len (a + 1) n)) (filter p (range_with_len (a + 1) n))) (h a (omega arith) (omega arith))
      ∙ none_pass (a + 1) n (λ m l k. h m (omega arith) (omega arith))

  -- those that pass stand between two of the numbers
  pub inside_range : (s k a n : ℕ) → s ≤ a → a + n ≤ s + k → ((m : ℕ) → s ≤ m → m < a → p m ≡ false) → ((m : ℕ) → a + n ≤ m → m < s + k → p m ≡ false) → filter p (range_with_len s k) ≡ filter p (range_with_len a n)
  inside_range s k a n h l before behind =
      let inner = range_with_len a n in
      let rest = s + k - (a + n) in
      let more : k ≡ (a - s) + (n + rest) = omega arith in
      let from : s + (a - s) ≡ a = omega arith in
      let up : a + n + rest ≡ s + k = omega arith in
      let whole : range_with_len s k ≡ range_with_len s (a - s) ++ (inner ++ range_with_len (a + n) rest) =
      ap (range_with_len s) more ∙ range-append s (a - s) (n + rest)
      ∙ ap (λ (b : ℕ). range_with_len s (a - s) ++ range_with_len b (n + rest)) from
      ∙ ap (λ (xs : List ℕ). range_with_len s (a - s) ++ xs) (range-append a n rest) in
      ap (filter p) whole
      ∙ filter-append p (range_with_len s (a - s)) (inner ++ range_with_len (a + n) rest)
      ∙ ap (λ (xs : List ℕ). xs ++ filter p (inner ++ range_with_len (a + n) rest)) (none_pass s (a - s) (λ m l k. before m l (omega arith)))
      ∙ filter-append p inner (range_with_len (a + n) rest)
      ∙ ap (λ (xs : List ℕ). filter p inner ++ xs) (none_pass (a + n) rest (λ m l k. behind m l (omega arith)))
      ∙ append-nil (filter p inner)

-- one number more, which passes or not
pub kept_one : (p : ℕ → Bool) (m : ℕ) (before : List ℕ) → p m ≡ true → before ++ m ∷ [] ≡ before ++ cond (p m) (m ∷ []) []
kept_one p m before h = sym (ap (λ b. before ++ cond b (m ∷ []) []) h)

pub kept_none : (p : ℕ → Bool) (m : ℕ) (before : List ℕ) → p m ≡ false → before ≡ before ++ cond (p m) (m ∷ []) []
kept_none p m before h = sym (append-nil before) ∙ sym (ap (λ b. before ++ cond b (m ∷ []) []) h)

pub one_more : (p : ℕ → Bool) (first m : ℕ) → first ≤ m → (before after : List ℕ) → before ≡ filter p (range_with_len first (m - first)) → after ≡ before ++ cond (p m) (m ∷ []) [] → after ≡ filter p (range_with_len first (m + 1 - first))
one_more p first m h before after was is =
    let next : m + 1 - first ≡ m - first + 1 = omega arith in
    let there : first + (m - first) ≡ m = omega arith in
    let all : range_with_len first (m + 1 - first) ≡ range_with_len first (m - first) ++ m ∷ [] =
    ap (range_with_len first) next ∙ range-append first (m - first) 1 ∙ ap (λ (k : ℕ). range_with_len first (m - first) ++ k ∷ []) there in
    is ∙ ap (λ (xs : List ℕ). xs ++ filter p (m ∷ [])) was
    ∙ sym (filter-append p (range_with_len first (m - first)) (m ∷ []))
    ∙ ap (filter p) (sym all)

-- ---- the months that a book's window leaves out
none_some : {X : Type 0} (o : Option X) (x : X) → o ≡ None → o ≡ Some x → ⊥
none_some o x h k = let e : None ≡ Some x = sym h ∙ k in cc

same_zero : (z : ℤ) → z ≡ pos 0 → not (int_eq z (pos 0)) ≡ false
same_zero z h = ap (λ (x : ℤ). not (int_eq x (pos 0))) h

-- a month stands in the calendar
pub year_of : (m : ℕ) → is_month m ≡ true → (197001 ≤ m) × (m ≤ 219912)
year_of m h =
    let parts = and_parts (is_in_range 1970 2199 (m / 100)) (is_in_range 1 12 (m % 100)) h in
    let year = and_parts (nat_le 1970 (m / 100)) (nat_le (m / 100) 2199) parts.0 in
    let month = and_parts (nat_le 1 (m % 100)) (nat_le (m % 100) 12) parts.1 in
    let a = leb-true 1970 (m / 100) year.0 in
    let b = leb-true (m / 100) 2199 year.1 in
    let c = leb-true 1 (m % 100) month.0 in
    let d = leb-true (m % 100) 12 month.1 in
    (omega arith, omega arith)

module _ (rows : Rows) (id : Text) where
  -- a month in which a category is given something has its row
  given_in : (m : ℕ) → (HasRowIn rows m → ⊥) → is_given rows id m ≡ false
  given_in m none = by (is_month m) refl
    where
      amount : (o : Option BudgetRow) → is_month m ≡ true → map.get rows.budgets (budget_id id m) ≡ o → value_or_zero (λ b. b.amount) o ≡ pos 0
      amount None valid e = refl
      amount (Some b) valid e = absurd (none (inr (inl (budget_id id m, b, e, budget_month_back id m valid))))

      by : (b : Bool) → is_month m ≡ b → (b && not (int_eq (budgeted rows id m) (pos 0))) ≡ false
      by true valid = same_zero (budgeted rows id m) (amount (map.get rows.budgets (budget_id id m)) valid refl)
      by false valid = refl

  unfolded : (s k : ℕ) → s ≡ 197001 → k ≡ 22912 → calendar ≡ range_with_len s k
  unfolding calendar
  unfolded s k e f = ap₂ range_with_len (sym e) (sym f)

  -- no month is, where the book has no window
  pub given_never : window_of rows ≡ None → given_months rows id ≡ []
  given_never h =
      let spans : Spans (HasRowIn rows) None = subst (Spans (HasRowIn rows)) h (windows_span_lem rows) in
      (λ (s k : ℕ) (e : s ≡ 197001) (f : k ≡ 22912). ap (filter (is_given rows id)) (unfolded s k e f) ∙ none_pass (is_given rows id) s k (λ m l j. given_in m (spans m))) 197001 22912 refl refl

  -- those of the window are all
  pub given_inside : (first last : ℕ) → window_of rows ≡ Some (first, last) → is_month first ≡ true → is_month last ≡ true
      → (first ≤ last + 1) × (filter (is_given rows id) (range_with_len first (last + 1 - first)) ≡ given_months rows id)
  given_inside first last h low high =
      let span : IsSpan (HasRowIn rows) (first, last) = subst (Spans (HasRowIn rows)) h (windows_span_lem rows) in
      let up : first ≤ last = span.from last span.last in
      let from = year_of first low in
      let to = year_of last high in (
        omega arith,
        (λ (s k : ℕ) (e : s ≡ 197001) (f : k ≡ 22912).
            sym (ap (filter (is_given rows id)) (unfolded s k e f)
            ∙ inside_range (is_given rows id) s k first (last + 1 - first) (omega arith) (omega arith)
            (λ m l j. given_in m (λ there. absurd (let p : first ≤ m = span.from m there in omega arith)))
            (λ m l j. given_in m (λ there. absurd (let p : m ≤ last = span.up_to m there in omega arith))))) 197001 22912 refl refl,
      )

-- ---- the other category's rows
-- a row that has no name refuses
pub nameless : (rows : Rows) (id to : Text) (gs : List Gain) (fault : EditFault) → gs ≡ gains rows id to → each (λ (g : Gain). an_amount g.amount) (gains rows id to) ≡ Ok tt
    → IsEditFault (each (λ (g : Gain). a_name (budget_id to g.month)) gs) fault → IsEditFault (may_gain rows id to) fault
nameless rows id to gs fault same amounts due memory =
    ap (λ (r : Check). r >>= λ _. each (λ (g : Gain). a_name (budget_id to g.month)) (gains rows id to)) amounts
    ∙ subst (λ (xs : List Gain). each (λ (g : Gain). a_name (budget_id to g.month)) xs ≡ Err fault) same (due memory)
