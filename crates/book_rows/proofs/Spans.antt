-- The first and the last of the months that rows have.
use Rattle.std.proofs.Common.{◌≡◌, ◌⊎◌, inl, inr, ℕ, zero, suc, min, max, Bool, true, false, cond, List, [], ◌∷◌, map, Option, Some, None, refl, sym, ap, ap₂, ◌∙◌, true≢false, arith, subst}
use Rattle.std.specs.Prelude.{◌/◌, ◌||◌, IfSome, if◌then◌else◌, nat_lt, ◌==◌, length, slice_index}
use Rattle.std.specs.Option.{option_map}
use Rattle.std.specs.Ordering.{eq_by_cmp, nat_cmp}
use Rattle.std.specs.Cmp.{eq_by_cmp_equiv, nat_cmp_total}
use Rattle.std.specs.List.{filter, list_any}
use Rattle.std.specs.BTreeSet.{BTreeSet}
use Rattle.std.specs.FinMap as map
use Rattle.std.specs.FinMap.{nat_cmp-IsAntisymmetric, find}
use Rattle.finite_sums.specs.Maps.{Text, Texts, text_cmp, some_and, keys_where, is_among}
use Rattle.finite_sums.proofs.Texts.{text_total, text_same}
use Rattle.finite_sums.proofs.MapSums.{among-keys_where}
use Rattle.book_rows.specs.declared.rows.Rows.{Rows}
use Rattle.book_rows.specs.declared.rows.TxRow.{TxRow}
use Rattle.book_rows.specs.declared.txs.TxIndex.{TxIndex}
use Rattle.book_rows.specs.declared.rows.BudgetRow.{BudgetRow}
use Rattle.book_rows.specs.declared.rows.MonthRow.{MonthRow}
use Rattle.book_rows.specs.Laws.{HasRowIn, WindowsSpan}
use Rattle.book_rows.specs.Kinds.{is_day}
use Rattle.book_rows.specs.Months.{is_month, month_in, behind, two_at, four_at, month_of_row, budget_month, month_row_month, hull, month_span, span_of, window_of}
use Rattle.book_rows.specs.Book.{HaveDays, IsIndexed, keys_of, is_month_of, has_named}
use Rattle.book_rows.specs.Spans.{Spans, HasDated, HasMonth}
use Rattle.book_rows.proofs.Pairs.{is_equal, itself}
use Rattle.book_rows.proofs.Days.{day_month}

never : {P : Type 0} → false ≡ true → P
never h = absurd (true≢false (sym h))

or_left : (a b : Bool) → a ≡ true → (a || b) ≡ true
or_left true b h = refl
or_left false b h = never h

or_right : (a b : Bool) → b ≡ true → (a || b) ≡ true
or_right true b h = refl
or_right false b h = h

or_cases : (a b : Bool) → (a || b) ≡ true → (a ≡ true) ⊎ (b ≡ true)
or_cases true b h = inl refl
or_cases false b h = inr h

least_is : (a b : ℕ) → (min a b ≡ a) ⊎ (min a b ≡ b)
least_is zero b = inl (omega arith)
least_is (suc a) zero = inr (omega arith)
least_is (suc a) (suc b) = elim (least_is a b) as (λ _. (min (suc a) (suc b) ≡ suc a) ⊎ (min (suc a) (suc b) ≡ suc b)) [ inl e ↦ inl (omega (arith, e)) | inr e ↦ inr (omega (arith, e)) ]

greatest_is : (a b : ℕ) → (max a b ≡ a) ⊎ (max a b ≡ b)
greatest_is zero b = inr (omega arith)
greatest_is (suc a) zero = inl (omega arith)
greatest_is (suc a) (suc b) = elim (greatest_is a b) as (λ _. (max (suc a) (suc b) ≡ suc a) ⊎ (max (suc a) (suc b) ≡ suc b)) [ inl e ↦ inl (omega (arith, e)) | inr e ↦ inr (omega (arith, e)) ]

-- the span of what one or the other has
module _ (P Q R : ℕ → Type 0) (left : (m : ℕ) → P m → R m) (right : (m : ℕ) → Q m → R m) (split : (m : ℕ) → R m → P m ⊎ Q m) where
  pick : {S : Type 0} (m : ℕ) → (P m → S) → (Q m → S) → P m ⊎ Q m → S
  pick m f g (inl p) = f p
  pick m f g (inr q) = g q

  at_one : (k a b : ℕ) → P a → Q b → (k ≡ a) ⊎ (k ≡ b) → R k
  at_one k a b p q (inl e) = subst R (sym e) (left a p)
  at_one k a b p q (inr e) = subst R (sym e) (right b q)

  pub hull_spans : (a b : Option (ℕ × ℕ)) → Spans P a → Spans Q b → Spans R (hull a b)
  hull_spans None None p q = λ m h. pick m (p m) (q m) (split m h)
  hull_spans None (Some w) p q = record {
    first = right w.0 q.first;
    last = right w.1 q.last;
    from = λ m h. pick m (λ x. absurd (p m x)) (q.from m) (split m h);
    up_to = λ m h. pick m (λ x. absurd (p m x)) (q.up_to m) (split m h);
  }
  hull_spans (Some v) None p q = record {
    first = left v.0 p.first;
    last = left v.1 p.last;
    from = λ m h. pick m (p.from m) (λ x. absurd (q m x)) (split m h);
    up_to = λ m h. pick m (p.up_to m) (λ x. absurd (q m x)) (split m h);
  }
  hull_spans (Some v) (Some w) p q = record {
    first = at_one (min v.0 w.0) v.0 w.0 p.first q.first (least_is v.0 w.0);
    last = at_one (max v.1 w.1) v.1 w.1 p.last q.last (greatest_is v.1 w.1);
    from = λ m h. pick m (λ x. let l = p.from m x in omega arith) (λ x. let l = q.from m x in omega arith) (split m h);
    up_to = λ m h. pick m (λ x. let l = p.up_to m x in omega arith) (λ x. let l = q.up_to m x in omega arith) (split m h);
  }

-- two spans of the same months are one
pub one_span : (P Q : ℕ → Type 0) → ((m : ℕ) → P m → Q m) → ((m : ℕ) → Q m → P m) → (a b : Option (ℕ × ℕ)) → Spans P a → Spans Q b → a ≡ b
one_span P Q there back None None p q = refl
one_span P Q there back None (Some w) p q = absurd (p w.0 (back w.0 q.first))
one_span P Q there back (Some v) None p q = absurd (q v.0 (there v.0 p.first))
one_span P Q there back (Some v) (Some w) p q =
    let a = p.from w.0 (back w.0 q.first) in
    let b = q.from v.0 (there v.0 p.first) in
    let c = p.up_to w.1 (back w.1 q.last) in
    let d = q.up_to v.1 (there v.1 p.last) in
    let e : v.0 ≡ w.0 = omega arith in
    let f : v.1 ≡ w.1 = omega arith in
    ap₂ (λ (x y : ℕ). Some (x, y)) e f

month_is : (k m : ℕ) → eq_by_cmp nat_cmp k m ≡ true → k ≡ m
month_is k m h = nat_cmp-IsAntisymmetric k m (is_equal _ h)

own_span : (o : Option ℕ) → Spans (λ m. is_month_of m o ≡ true) (month_span o)
own_span None = λ m h. never h
own_span (Some k) = record {
  first = (eq_by_cmp_equiv nat_cmp_total).refl k;
  last = (eq_by_cmp_equiv nat_cmp_total).refl k;
  from = λ m h. let e = month_is k m h in omega arith;
  up_to = λ m h. let e = month_is k m h in omega arith;
}

pub list_spans : {X : Type 0} (month : X → Option ℕ) (xs : List X) → Spans (λ m. list_any (λ x. is_month_of m (month x)) xs ≡ true) (span_of month xs)
list_spans month [] = λ m h. never h
list_spans month (x ∷ xs) =
    hull_spans (λ m. is_month_of m (month x) ≡ true) (λ m. list_any (λ x. is_month_of m (month x)) xs ≡ true) (λ m. list_any (λ x. is_month_of m (month x)) (x ∷ xs) ≡ true)
    (λ m h. or_left _ _ h) (λ m h. or_right _ _ h) (λ m h. or_cases _ _ h) (month_span (month x)) (span_of month xs) (own_span (month x)) (list_spans month xs)

-- ---- a row passes a test where an entry does
module _ {X : Type 0} (p : X → Bool) where
  among_any : (q : Text) (es : List (Text × X)) → is_among text_cmp (keys_where p es) q ≡ true → list_any (λ e. p e.1) es ≡ true
  among_any q [] h = never h
  among_any q (e ∷ es) h =
      (elim (p e.1) as (λ b. is_among text_cmp (map (λ e. e.0) (cond b (e ∷ filter (λ e. p e.1) es) (filter (λ e. p e.1) es))) q ≡ true → (b || list_any (λ e. p e.1) es) ≡ true) [ true ↦ λ k. refl | false ↦ λ k. among_any q es k ]) h

  any_among : (es : List (Text × X)) → list_any (λ e. p e.1) es ≡ true → (q : Text) × (is_among text_cmp (keys_where p es) q ≡ true)
  any_among [] h = never h
  any_among (e ∷ es) h =
      (elim (p e.1) as (λ b. (b || list_any (λ e. p e.1) es) ≡ true → (q : Text) × (is_among text_cmp (map (λ e. e.0) (cond b (e ∷ filter (λ e. p e.1) es) (filter (λ e. p e.1) es))) q ≡ true)) [
        | true ↦ λ k. (e.0, or_left _ _ (itself e.0))
        | false ↦ λ k. any_among es k
      ]) h

  pub row_any : (m : Texts X) (q : Text) → some_and p (map.get m q) ≡ true → list_any (λ e. p e.1) (map.entries m) ≡ true
  row_any m q h = among_any q (map.entries m) (among-keys_where text_total text_same p m q ∙ h)

  pub any_row : (m : Texts X) → list_any (λ e. p e.1) (map.entries m) ≡ true → (q : Text) × (some_and p (map.get m q) ≡ true)
  any_row m h = let found = any_among (map.entries m) h in (found.0, sym (among-keys_where text_total text_same p m found.0) ∙ found.1)

month_there : (m : ℕ) (o : Option TxRow) → is_month_of m (keys_of o).month ≡ some_and (λ x. is_month_of m (month_of_row x)) o
month_there m None = refl
month_there m (Some x) = refl

-- ---- the window
pub window_is : (index : TxIndex) (named : BTreeSet ℕ) (rows : Rows) → IsIndexed index named rows.txs rows.budgets rows.months rows.tracked → (dates ids : Option (ℕ × ℕ)) → Spans (HasDated index.months) dates → Spans (HasMonth named) ids → hull dates ids ≡ window_of rows
window_is index named rows is dates ids of_dates of_ids = ap₂ (λ (a b : Option (ℕ × ℕ)). hull a b) by_day by_id
  where
    HasDay : ℕ → Type 0
    HasDay m = list_any (λ e. is_month_of m (month_of_row e.1)) (map.entries rows.txs) ≡ true

    InBudget : ℕ → Type 0
    InBudget m = list_any (λ e. is_month_of m (budget_month e.0)) (map.entries rows.budgets) ≡ true

    InMonth : ℕ → Type 0
    InMonth m = list_any (λ e. is_month_of m (month_row_month e.0)) (map.entries rows.months) ≡ true

    by_day : dates ≡ span_of (λ e. month_of_row e.1) (map.entries rows.txs)
    by_day = one_span (HasDated index.months) HasDay
        (λ m h. row_any (λ x. is_month_of m (month_of_row x)) rows.txs h.0 (sym (month_there m (map.get rows.txs h.0)) ∙ sym (is.txs.months m h.0) ∙ h.1))
        (λ m h. let found = any_row (λ x. is_month_of m (month_of_row x)) rows.txs h in (found.0, is.txs.months m found.0 ∙ month_there m (map.get rows.txs found.0) ∙ found.1))
        dates (span_of (λ e. month_of_row e.1) (map.entries rows.txs)) of_dates (list_spans (λ e. month_of_row e.1) (map.entries rows.txs))

    budgets : Option (ℕ × ℕ)
    budgets = span_of (λ e. budget_month e.0) (map.entries rows.budgets)

    months : Option (ℕ × ℕ)
    months = span_of (λ e. month_row_month e.0) (map.entries rows.months)

    by_id : ids ≡ hull budgets months
    by_id = one_span (HasMonth named) (λ m. has_named rows.budgets rows.months m ≡ true) (λ m h. sym (is.named m) ∙ h) (λ m h. is.named m ∙ h) ids (hull budgets months) of_ids
        (hull_spans InBudget InMonth (λ m. has_named rows.budgets rows.months m ≡ true) (λ m h. or_left _ _ h) (λ m h. or_right _ _ h) (λ m h. or_cases _ _ h) budgets months
        (list_spans (λ e. budget_month e.0) (map.entries rows.budgets)) (list_spans (λ e. month_row_month e.0) (map.entries rows.months)))

-- ---- the window in the words of rows
some_there : {X : Type 0} (p : X → Bool) (o : Option X) → some_and p o ≡ true → (x : X) × ((o ≡ Some x) × (p x ≡ true))
some_there p None h = never h
some_there p (Some x) h = (x, (refl, h))

there_some : {X : Type 0} (p : X → Bool) (o : Option X) (x : X) → o ≡ Some x → p x ≡ true → some_and p o ≡ true
there_some p o x h k = ap (some_and p) h ∙ k

month_told : (m : ℕ) (o : Option ℕ) → is_month_of m o ≡ true → o ≡ Some m
month_told m None h = never h
month_told m (Some k) h = ap Some (month_is k m h)

month_tells : (m : ℕ) (o : Option ℕ) → o ≡ Some m → is_month_of m o ≡ true
month_tells m o h = ap (is_month_of m) h ∙ (eq_by_cmp_equiv nat_cmp_total).refl m

-- an entry whose key passes
module _ {X : Type 0} (p : Text → Bool) where
  key_at : (q : Text) (x : X) (e : Text × X) (es : List (Text × X)) (b : Bool) → eq_by_cmp text_cmp q e.0 ≡ b → p q ≡ true → (find text_cmp q es ≡ Some x → list_any (λ e. p e.0) es ≡ true) → cond b (Some e.1) (find text_cmp q es) ≡ Some x → (p e.0 || list_any (λ e. p e.0) es) ≡ true
  key_at q x e es true t k more h = or_left _ _ (ap p (sym (text_same q e.0 (is_equal _ t))) ∙ k)
  key_at q x e es false t k more h = or_right _ _ (more h)

  key_any : (q : Text) (x : X) (es : List (Text × X)) → find text_cmp q es ≡ Some x → p q ≡ true → list_any (λ e. p e.0) es ≡ true
  key_any q x [] h k = absurd (cc)
  key_any q x (e ∷ es) h k = key_at q x e es (eq_by_cmp text_cmp q e.0) refl k (λ g. key_any q x es g k) h

  abbrev Found : List (Text × X) → Type 0
  Found es = (q : Text) × ((x : X) × ((find text_cmp q es ≡ Some x) × (p q ≡ true)))

  found_at : (q : Text) (x : X) (e : Text × X) (es : List (Text × X)) (b : Bool) → eq_by_cmp text_cmp q e.0 ≡ b → find text_cmp q es ≡ Some x → p q ≡ true → Found (e ∷ es)
  found_at q x e es true t h k = (q, (e.1, (ap (λ b. cond b (Some e.1) (find text_cmp q es)) t, k)))
  found_at q x e es false t h k = (q, (x, (ap (λ b. cond b (Some e.1) (find text_cmp q es)) t ∙ h, k)))

  found_by : (e : Text × X) (es : List (Text × X)) (b : Bool) → p e.0 ≡ b → (list_any (λ e. p e.0) es ≡ true → Found es) → (b || list_any (λ e. p e.0) es) ≡ true → Found (e ∷ es)
  found_by e es true t more h = (e.0, (e.1, (ap (λ b. cond b (Some e.1) (find text_cmp e.0 es)) (itself e.0), t)))
  found_by e es false t more h = let f = more h in found_at f.0 f.1.0 e es (eq_by_cmp text_cmp f.0 e.0) refl f.1.1.0 f.1.1.1

  any_key : (es : List (Text × X)) → list_any (λ e. p e.0) es ≡ true → Found es
  any_key [] h = never h
  any_key (e ∷ es) h = found_by e es (p e.0) refl (any_key es) h

abbrev HasBudgetIn : Rows → ℕ → Type 0
HasBudgetIn rows m = (id : Text) × (b : BudgetRow) × (map.get rows.budgets id ≡ Some b) × (budget_month id ≡ Some m)

abbrev HasMonthIn : Rows → ℕ → Type 0
HasMonthIn rows m = (id : Text) × (b : MonthRow) × (map.get rows.months id ≡ Some b) × (month_row_month id ≡ Some m)

abbrev HasTxIn : Rows → ℕ → Type 0
HasTxIn rows m = (id : Text) × (x : TxRow) × (map.get rows.txs id ≡ Some x) × (month_of_row x ≡ Some m)

-- the same span, of what is told in other words
pub respan : (P Q : ℕ → Type 0) → ((m : ℕ) → P m → Q m) → ((m : ℕ) → Q m → P m) → (o : Option (ℕ × ℕ)) → Spans P o → Spans Q o
respan P Q there back None p = λ m h. p m (back m h)
respan P Q there back (Some v) p = record { first = there v.0 p.first; last = there v.1 p.last; from = λ m h. p.from m (back m h); up_to = λ m h. p.up_to m (back m h) }

pub windows_span_lem : WindowsSpan
windows_span_lem rows =
    hull_spans (HasTxIn rows) (λ m. HasBudgetIn rows m ⊎ HasMonthIn rows m) (HasRowIn rows) (λ m h. inl h) (λ m h. inr h) (λ m h. h) _ _
    (respan _ (HasTxIn rows)
    (λ m h. let found = any_row (λ x. is_month_of m (month_of_row x)) rows.txs h in let row = some_there _ _ found.1 in (found.0, row.0, row.1.0, month_told m _ row.1.1))
    (λ m h. row_any (λ x. is_month_of m (month_of_row x)) rows.txs h.0 (there_some _ _ h.1 h.2 (month_tells m _ h.3)))
    _ (list_spans (λ e. month_of_row e.1) (map.entries rows.txs)))
    (hull_spans (HasBudgetIn rows) (HasMonthIn rows) (λ m. HasBudgetIn rows m ⊎ HasMonthIn rows m) (λ m h. inl h) (λ m h. inr h) (λ m h. h) _ _
    (respan _ (HasBudgetIn rows)
    (λ m h. let found = any_key (λ id. is_month_of m (budget_month id)) (map.entries rows.budgets) h in (found.0, found.1.0, map.get-entries rows.budgets found.0 ∙ found.1.1.0, month_told m _ found.1.1.1))
    (λ m h. key_any (λ id. is_month_of m (budget_month id)) h.0 h.1 (map.entries rows.budgets) (sym (map.get-entries rows.budgets h.0) ∙ h.2) (month_tells m _ h.3))
    _ (list_spans (λ e. budget_month e.0) (map.entries rows.budgets)))
    (respan _ (HasMonthIn rows)
    (λ m h. let found = any_key (λ id. is_month_of m (month_row_month id)) (map.entries rows.months) h in (found.0, found.1.0, map.get-entries rows.months found.0 ∙ found.1.1.0, month_told m _ found.1.1.1))
    (λ m h. key_any (λ id. is_month_of m (month_row_month id)) h.0 h.1 (map.entries rows.months) (sym (map.get-entries rows.months h.0) ∙ h.2) (month_tells m _ h.3))
    _ (list_spans (λ e. month_row_month e.0) (map.entries rows.months))))

-- ---- the months that rows have are months
no_some : {P : Type 0} (m : ℕ) → None ≡ Some m → P
no_some m h = absurd (cc)

one_of : (n m : ℕ) → Some n ≡ Some m → n ≡ m
one_of n m h = cc

unless : (b : Bool) (o : Option ℕ) (m : ℕ) → (if b then None else o) ≡ Some m → o ≡ Some m
unless true o m h = no_some m h
unless false o m h = h

only : (b : Bool) (o : Option ℕ) (m : ℕ) → (if b then o else None) ≡ Some m → o ≡ Some m
only true o m h = h
only false o m h = no_some m h

in_year : (o : Option ℕ) (m : ℕ) → month_in o ≡ Some m → is_month m ≡ true
in_year None m h = no_some m h
in_year (Some n) m h = by (is_month n) refl h
  where
    by : (b : Bool) → is_month n ≡ b → (if b then Some n else None) ≡ Some m → is_month m ≡ true
    by true e k = ap is_month (sym (one_of n m k)) ∙ e
    by false e k = no_some m k

budget_told : (id : Text) (m : ℕ) → budget_month id ≡ Some m → is_month m ≡ true
unfolding budget_month
budget_told id m h =
    let o = behind 100 (four_at id 0) (two_at id 4) in
    in_year o m (only (slice_index id 6 == 45) (month_in o) m (unless (nat_lt (length id) 7) (if slice_index id 6 == 45 then month_in o else None) m h))

month_row_told : (id : Text) (m : ℕ) → month_row_month id ≡ Some m → is_month m ≡ true
unfolding month_row_month
month_row_told id m h =
    let o = behind 100 (four_at id 0) (two_at id 5) in
    in_year o m (only (slice_index id 4 == 45) (month_in o) m (only (length id == 7) (if slice_index id 4 == 45 then month_in o else None) m h))

dated_told : (o : Option ℕ) (m : ℕ) → ((day : ℕ) → o ≡ Some day → is_day day ≡ true) → option_map (λ day. day / 100) o ≡ Some m → is_month m ≡ true
dated_told None m days h = no_some m h
dated_told (Some day) m days h = ap is_month (sym (one_of _ m h)) ∙ day_month day (days day refl)

row_month : (rows : Rows) → HaveDays rows.txs → (m : ℕ) → HasRowIn rows m → is_month m ≡ true
row_month rows days m (inl h) = dated_told h.1.date m (λ day e. days h.0 h.1 day h.2 e) h.3
row_month rows days m (inr (inl h)) = budget_told h.0 m h.3
row_month rows days m (inr (inr h)) = month_row_told h.0 m h.3

span_months : (P : ℕ → Type 0) → ((m : ℕ) → P m → is_month m ≡ true) → (o : Option (ℕ × ℕ)) → Spans P o → IfSome o (λ w. (is_month w.0 ≡ true) × (is_month w.1 ≡ true))
span_months P told None s = tt
span_months P told (Some w) s = (told w.0 s.first, told w.1 s.last)

-- the window begins and ends with a month
pub window_months : (rows : Rows) → HaveDays rows.txs → IfSome (window_of rows) (λ w. (is_month w.0 ≡ true) × (is_month w.1 ≡ true))
window_months rows days = span_months (HasRowIn rows) (row_month rows days) (window_of rows) (windows_span_lem rows)
