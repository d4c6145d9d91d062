-- What is added up for all months stays small: each transaction counts in at most one category and month, and each budget row too.
use Rattle.std.proofs.Common.{◌≡◌, ℕ, ◌+◌, ◌-◌, ◌*◌, ◌/◌, ◌%◌, ◌==◌, ◌<◌, ◌≤◌, Bool, true, false, cond, List, [], ◌∷◌, ◌++◌, Option, Some, None, zero, suc, drop, get_or, unsigned_abs, refl, ap, sym, ◌∙◌, arith}
use Rattle.std.specs.Prelude.{◌&&◌}
use lib.IntN.{ℤ, pos, ◌+ℤ◌}
use Rattle.std.proofs.lemmas.Int.{ints}
use Rattle.std.proofs.lemmas.Bool.Decides.{nat_tests}
use Rattle.std.specs.Ordering.{eq_by_cmp}
use Rattle.std.specs.FinMap.{find, is_sorted, get, entries, entries_sorted, get-entries}
use Rattle.finite_sums.specs.Sums.{total, only_if, weight, hits}
use Rattle.finite_sums.specs.Maps.{Text, Texts, text_cmp, value_or_zero, some_and}
use Rattle.finite_sums.proofs.Classes.{no_overlap}
use Rattle.finite_sums.proofs.MapSums.{so, both_true, sorted_tail}
use Rattle.finite_sums.proofs.Texts.{text_total, text_same}
use Rattle.book_rows.specs.declared.rows.Rows.{Rows}
use Rattle.book_rows.specs.declared.rows.TxRow.{TxRow}
use Rattle.book_rows.specs.declared.rows.BudgetRow.{BudgetRow}
use Rattle.book_rows.specs.Book.{HasSizes}
use Rattle.book_rows.specs.Live.{is_counted, category_of}
use Rattle.book_rows.specs.Parts.{is_text}
use Rattle.book_rows.specs.Months.{month_of_row}
use Rattle.envelope_cells.specs.Budget.{categories}
use Rattle.book_rows.specs.Ids.{budget_id}
use Rattle.envelope_cells.specs.Ids.{month_at}
use Rattle.envelope_cells.specs.BudgetOf.{budget_of, is_of, category_sum, budgeted}
use Rattle.envelope_cells.specs.Parts.{weight_before, IsSmall}
use Rattle.envelope_cells.proofs.Among.{same_texts, itself}
use Rattle.envelope_cells.proofs.Lists.{weight-append, weight_le}
use Rattle.envelope_cells.proofs.Rows.{absent, tx_weight, budget_weight, txs_small, budgets_small}
use Rattle.envelope_cells.proofs.Distinct.{one_if, categories_once, hits-append, hits_none}

-- a category in each of the first n months
abbrev row : Text → ℕ → List (Text × ℕ)
row c zero = []
row c (suc m) = (c, m) ∷ row c m

abbrev pairs : List Text → ℕ → List (Text × ℕ)
pairs [] n = []
pairs (c ∷ cs) n = row c n ++ pairs cs n

-- how many of the first n months pass a test
abbrev count : (ℕ → Bool) → ℕ → ℕ
count p zero = 0
count p (suc m) = one_if (p m) + count p m

count_none : (p : ℕ → Bool) (n : ℕ) → ((k : ℕ) → k < n → p k ≡ false) → count p n ≡ 0
count_none p zero h = refl
count_none p (suc m) h = omega (arith, ap (λ b. one_if b) (h m (omega arith)), count_none p m (λ k l. h k (omega arith)))

month_rises : (k m : ℕ) → k < m → month_at k < month_at m
month_rises k m h = omega arith

not_same : (m n : ℕ) → m < n → (m == n) ≡ false
not_same m n h = grind (arith, nat_tests)

same_number : (m n : ℕ) → (m == n) ≡ true → m ≡ n
same_number m n h = grind (arith, nat_tests)

itself_number : (m n : ℕ) → m ≡ n → (m == n) ≡ true
itself_number m n h = grind (arith, nat_tests)

-- a month has one number
count_month : (q n : ℕ) → count (λ k. q == month_at k) n ≤ 1
count_month q zero = omega arith
count_month q (suc m) = by (q == month_at m) refl (count_month q m)
  where
    none : q ≡ month_at m → (k : ℕ) → k < m → (q == month_at k) ≡ false
    none e k l =
        let rise : month_at k < month_at m = month_rises k m l in
        let apart : month_at k < q = omega (arith, rise, e) in
        grind (arith, nat_tests)

    by : (b : Bool) → (q == month_at m) ≡ b → count (λ k. q == month_at k) m ≤ 1 → one_if b + count (λ k. q == month_at k) m ≤ 1
    by true p h = omega (arith, count_none (λ k. q == month_at k) m (none (same_number q (month_at m) p)))
    by false p h = omega (arith, h)

module _ (t : Text × ℕ → Bool) where
  hits_row : (p : ℕ → Bool) (c : Text) (n : ℕ) → ((k : ℕ) → k < n → t (c, k) ≡ true → p k ≡ true) → hits t (row c n) ≤ count p n
  hits_row p c zero h = omega arith
  hits_row p c (suc m) h = omega (arith, by (t (c, m)) (p m) (h m (omega arith)), hits_row p c m (λ k l. h k (omega arith)))
    where
      by : (a b : Bool) → (a ≡ true → b ≡ true) → one_if a ≤ one_if b
      by true b h = omega (arith, ap (λ b. one_if b) (h refl))
      by false b h = omega arith

  -- a test that tells the category and the month passes once
  hits_pairs : (pc : Text → Bool) (pk : ℕ → Bool) (n : ℕ) → count pk n ≤ 1 → ((c : Text) (k : ℕ) → k < n → t (c, k) ≡ true → (pc c ≡ true) × (pk k ≡ true)) → (cs : List Text) → hits t (pairs cs n) ≤ hits pc cs
  hits_pairs pc pk n few h [] = omega arith
  hits_pairs pc pk n few h (c ∷ cs) =
      omega (arith, hits-append t (row c n) (pairs cs n), by (pc c) refl, hits_pairs pc pk n few h cs)
    where
      no : (a : Bool) → (a ≡ true → false ≡ true) → a ≡ false
      no true g = sym (g refl)
      no false g = refl

      by : (b : Bool) → pc c ≡ b → hits t (row c n) ≤ one_if b
      by true p = omega (arith, hits_row pk c n (λ k l e. (h c k l e).1), few)
      by false p = omega (arith, hits_row (λ k. false) c n (λ k l e. sym p ∙ (h c k l e).0), count_none (λ k. false) n (λ k l. refl))

weight_pairs : (f : Text × ℕ → ℕ) (g : Text → ℕ → ℕ) → ((c : Text) (n : ℕ) → weight f (row c n) ≡ g c n) → (n : ℕ) (cs : List Text) → weight f (pairs cs n) ≡ weight (λ c. g c n) cs
weight_pairs f g h n [] = refl
weight_pairs f g h n (c ∷ cs) = omega (arith, weight-append f (row c n) (pairs cs n), h c n, weight_pairs f g h n cs)

weight_both : {A : Type 0} (f g : A → ℕ) (xs : List A) → weight (λ x. f x + g x) xs ≡ weight f xs + weight g xs
weight_both f g [] = omega arith
weight_both f g (x ∷ xs) = omega (arith, weight_both f g xs)

-- ---- what is found is a sum
module _ {X : Type 0} (f : X → ℤ) (q : Text) where
  found_list : (es : List (Text × X)) → is_sorted text_cmp es ≡ true → value_or_zero f (find text_cmp q es) ≡ total (λ e. only_if (eq_by_cmp text_cmp q e.0) (f e.1)) es
  found_list [] s = refl
  found_list (e ∷ es) s = by (eq_by_cmp text_cmp q e.0) refl (found_list es (sorted_tail text_total text_same e es s))
    where
      by : (b : Bool) → eq_by_cmp text_cmp q e.0 ≡ b → value_or_zero f (find text_cmp q es) ≡ total (λ e. only_if (eq_by_cmp text_cmp q e.0) (f e.1)) es
          → value_or_zero f (cond b (Some e.1) (find text_cmp q es)) ≡ only_if b (f e.1) +ℤ total (λ e. only_if (eq_by_cmp text_cmp q e.0) (f e.1)) es
      by true p h =
          let gone : find text_cmp q es ≡ None = ap (λ k. find text_cmp k es) (same_texts q e.0 p) ∙ absent e.0 es (both_true _ _ s).0 in
          let none : value_or_zero f (find text_cmp q es) ≡ pos 0 = ap (value_or_zero f) gone in
          omega (arith, ints, h, none)
      by false p h = omega (arith, ints, h)

  found_is : (m : Texts X) → value_or_zero f (get m q) ≡ total (λ e. only_if (eq_by_cmp text_cmp q e.0) (f e.1)) (entries m)
  found_is m = ap (value_or_zero f) (get-entries m q) ∙ found_list (entries m) (so _ (entries_sorted m))

-- ---- the ids of budget rows tell the category and the month
six_digits : List ℕ → ℕ
six_digits q = (get_or q 0 0 - 48) * 100000 + (get_or q 1 0 - 48) * 10000 + (get_or q 2 0 - 48) * 1000 + (get_or q 3 0 - 48) * 100 + (get_or q 4 0 - 48) * 10 + (get_or q 5 0 - 48)

digits_back : (y m : ℕ) → y < 10000
    → (48 + y / 100 / 10 % 10 - 48) * 100000 + (48 + y / 100 % 10 - 48) * 10000 + (48 + y / 10 % 10 - 48) * 1000 + (48 + y % 10 - 48) * 100 + (48 + m / 10 % 10 - 48) * 10 + (48 + m % 10 - 48) ≡ y * 100 + m % 100
digits_back y m h = omega arith

whole_month : (m : ℕ) → m / 100 * 100 + m % 100 ≡ m
whole_month m = omega arith

month_back : (c : Text) (k : ℕ) → k < 2760 → six_digits (budget_id c (month_at k)) ≡ month_at k
unfolding six_digits
month_back c k h = digits_back (month_at k / 100) (month_at k) (omega arith) ∙ whole_month (month_at k)

module _ (r : Rows) (n : ℕ) (within : n ≤ 2760) where
  abbrev cats : List Text
  cats = categories (budget_of r)

  -- a transaction is of one category and month
  tx_test : Text × TxRow → Text × ℕ → Bool
  tx_test e p = is_counted r e.1 && is_of r p.0 (month_at p.1) e.1

  one_category : (o : Option Text) → hits (λ c. is_text c o) cats ≤ 1
  one_category None = omega (arith, hits_none cats)
  one_category (Some q) = categories_once r q

  one_month : (o : Option ℕ) → count (λ k. some_and (λ m. m == month_at k) o) n ≤ 1
  one_month None = omega (arith, count_none (λ k. false) n (λ k l. refl))
  one_month (Some q) = count_month q n

  tx_once : (e : Text × TxRow) → hits (tx_test e) (pairs cats n) ≤ 1
  unfolding tx_test
  tx_once e =
      let pc = λ (c : Text). is_text c (category_of r e.1) in
      let pk = λ (k : ℕ). some_and (λ m. m == month_at k) (month_of_row e.1) in
      let all : hits (tx_test e) (pairs cats n) ≤ hits pc cats = hits_pairs (tx_test e) pc pk n (one_month (month_of_row e.1)) (λ c k l h. both_true (pc c) (pk k) (both_true (is_counted r e.1) (pc c && pk k) h).1) cats in
      omega (arith, all, one_category (category_of r e.1))

  sums_weight : weight (λ p. unsigned_abs (category_sum r p.0 (month_at p.1))) (pairs cats n) ≤ weight tx_weight (entries r.txs)
  unfolding tx_test
  sums_weight = no_overlap (λ p e. tx_test e p) (λ e. e.1.amount) (pairs cats n) (entries r.txs) tx_once

  -- a budget row is of one category and month
  budget_test : Text × BudgetRow → Text × ℕ → Bool
  budget_test e p = eq_by_cmp text_cmp (budget_id p.0 (month_at p.1)) e.0

  told : (e : Text × BudgetRow) (c : Text) (k : ℕ) → k < n → budget_test e (c, k) ≡ true → (eq_by_cmp text_cmp (drop 7 e.0) c ≡ true) × ((six_digits e.0 == month_at k) ≡ true)
  unfolding budget_test
  told e c k l h =
      let id : budget_id c (month_at k) ≡ e.0 = same_texts (budget_id c (month_at k)) e.0 h in
      let own : drop 7 e.0 ≡ c = sym (ap (drop 7) id) in
      (ap (λ d. eq_by_cmp text_cmp d c) own ∙ itself c, itself_number (six_digits e.0) (month_at k) (sym (ap six_digits id) ∙ month_back c k (omega arith)))

  budget_once : (e : Text × BudgetRow) → hits (budget_test e) (pairs cats n) ≤ 1
  budget_once e =
      let all : hits (budget_test e) (pairs cats n) ≤ hits (eq_by_cmp text_cmp (drop 7 e.0)) cats = hits_pairs (budget_test e) (eq_by_cmp text_cmp (drop 7 e.0)) (λ k. six_digits e.0 == month_at k) n (count_month (six_digits e.0) n) (told e) cats in
      omega (arith, all, categories_once r (drop 7 e.0))

  budgets_weight : weight (λ p. unsigned_abs (budgeted r p.0 (month_at p.1))) (pairs cats n) ≤ weight budget_weight (entries r.budgets)
  unfolding budget_test
  budgets_weight =
      let sums : weight (λ p. unsigned_abs (total (λ e. only_if (budget_test e p) e.1.amount) (entries r.budgets))) (pairs cats n) ≤ weight budget_weight (entries r.budgets) = no_overlap (λ p e. budget_test e p) (λ e. e.1.amount) (pairs cats n) (entries r.budgets) budget_once in
      let same : weight (λ p. unsigned_abs (budgeted r p.0 (month_at p.1))) (pairs cats n) ≤ weight (λ p. unsigned_abs (total (λ e. only_if (budget_test e p) e.1.amount) (entries r.budgets))) (pairs cats n) =
      weight_le (λ p. unsigned_abs (budgeted r p.0 (month_at p.1))) (λ p. unsigned_abs (total (λ e. only_if (budget_test e p) e.1.amount) (entries r.budgets))) (pairs cats n)
      (λ p. omega (arith, ap unsigned_abs (found_is (λ (x : BudgetRow). x.amount) (budget_id p.0 (month_at p.1)) r.budgets))) in
      omega (arith, sums, same)

  row_weight : (c : Text) (m : ℕ) → weight (λ p. unsigned_abs (budgeted r p.0 (month_at p.1)) + unsigned_abs (category_sum r p.0 (month_at p.1))) (row c m) ≡ weight_before (budget_of r) c m
  row_weight c zero = refl
  row_weight c (suc m) = omega (arith, row_weight c m)

  pub rows_are_small : HasSizes r → IsSmall (budget_of r) n
  rows_are_small h = record {
    all =
        let f = λ (p : Text × ℕ). unsigned_abs (budgeted r p.0 (month_at p.1)) in
        let g = λ (p : Text × ℕ). unsigned_abs (category_sum r p.0 (month_at p.1)) in
        let whole : weight (λ p. f p + g p) (pairs cats n) ≡ weight (λ c. weight_before (budget_of r) c n) cats = weight_pairs (λ p. f p + g p) (weight_before (budget_of r)) row_weight n cats in
        omega (arith, whole, weight_both f g (pairs cats n), sums_weight, budgets_weight, txs_small r h, budgets_small r h);
  }
