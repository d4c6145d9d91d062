-- Sums over lists of texts that have each text once, and over the live categories of books.
use Rattle.std.proofs.Common.{◌≡◌, ℕ, ◌≤◌, zero, suc, Bool, true, false, cond, List, [], ◌∷◌, filter, Option, None, Some, refl, ap, ap₂, sym, ◌∙◌, arith}
use Rattle.std.specs.Prelude.{◌≢◌, ◌+ℤ◌, ◌&&◌, ◌||◌, not}
use lib.IntN.{ℤ, neg_ℤ}
use Rattle.std.specs.FinMap.{get}
use Rattle.std.proofs.lemmas.Int.{ints}
use Rattle.finite_sums.specs.Sums.{total, hits}
use Rattle.finite_sums.specs.Maps.{Text, text_cmp, some_and, is_among}
use Rattle.book_rows.specs.declared.rows.Rows.{Rows}
use Rattle.book_rows.specs.declared.rows.CategoryRow.{CategoryRow}
use Rattle.book_rows.specs.Live.{is_live_category_row, has_income_group, is_live_category, is_income_category, is_expense_category}
use Rattle.book_edits.specs.Checks.{same_id}
use Rattle.envelope_cells.specs.declared.groups.BudgetGroup.{BudgetGroup}
use Rattle.envelope_cells.specs.Budget.{Budget, categories_of, categories, income, expense}
use Rattle.envelope_cells.specs.BudgetOf.{budget_of}
use Rattle.envelope_cells.specs.declared.name.CellKind.{CellKind}
use Rattle.envelope_cells.specs.declared.name.CellKind.TheVariants.{TotalIncome, FromLastMonth, AvailableFunds, LastMonthOverspent, TotalBudgeted, Buffered, ToBudget, TotalSpent, TotalLeftover, GroupSum, GroupBudget, GroupLeftover, Sum, Budget as OfBudget, Carryover, Leftover}
use Rattle.envelope_cells.specs.CellOf.{value_of, flag_value, is_of_category}
use Rattle.envelope_cells.specs.Cells.{total_leftover, to_budget, money_before, money, rolled, carried_before, leftover_before}
use Rattle.envelope_cells.specs.Ids.{month_number, month_at}
use Rattle.envelope_cells.specs.Laws.{LiveOnesAreListed, SayTheSame}
use Rattle.envelope_cells.proofs.Among.{total_on}
use Rattle.envelope_cells.proofs.Distinct.{one_if, hits-append, categories_once}
use Rattle.envelope_cells.proofs.Listed.{live_ones_are_listed_lem}
use Rattle.envelope_cells.proofs.Money.{money_is_kept_lem}
use Rattle.envelope_cells.proofs.Others.{others_count_nowhere_lem}
use Rattle.split_transfer.proofs.Basics.{same_refl, same_is, not_same, is_other, bool_cases, true_false, both_true, or_left}
use Rattle.book_laws.specs.HandingOn.{SumsAreHandedOn, BudgetsAreHandedOn, WholeMonthStays, CellsAreHandedOn}
use Rattle.book_laws.proofs.Each.{among-filter}

-- ---- lists that have each text once

abbrev AreOnce : List Text → Type 0
AreOnce xs = (q : Text) → hits (same_id q) xs ≤ 1

abbrev out : Text → List Text → List Text
out x ys = filter (λ y. not (same_id x y)) ys

one_here : (q x : Text) → same_id q x ≡ true → one_if (same_id q x) ≡ 1
one_here q x h = ap one_if h

once_tail : (x : Text) (xs : List Text) → AreOnce (x ∷ xs) → AreOnce xs
once_tail x xs once q = let all : hits (same_id q) (x ∷ xs) ≤ 1 = once q in omega (arith, all)

-- a text that none is, is not listed
none_among : (q : Text) (xs : List Text) → hits (same_id q) xs ≡ 0 → is_among text_cmp xs q ≡ false
none_among q [] h = refl
none_among q (x ∷ xs) h = bool_cases (same_id q x)
    (λ t. let one = one_here q x t in absurd (omega (arith, one, h)))
    (λ f.
    let none : one_if (same_id q x) ≡ 0 = ap one_if f in
    ap (λ b. b || is_among text_cmp xs q) f ∙ none_among q xs (omega (arith, none, h)))

head_once : (x : Text) (xs : List Text) → AreOnce (x ∷ xs) → hits (same_id x) xs ≡ 0
head_once x xs once =
    let one = one_here x x (same_refl x) in
    let all : hits (same_id x) (x ∷ xs) ≤ 1 = once x in
    omega (arith, one, all)

out_none : (x : Text) (ys : List Text) → is_among text_cmp ys x ≡ false → out x ys ≡ ys
out_none x [] h = refl
out_none x (y ∷ ys) h = bool_cases (same_id x y)
    (λ t. true_false (same_id x y || is_among text_cmp ys x) (or_left _ _ t) h)
    (λ f. ap (λ b. cond (not b) (y ∷ out x ys) (out x ys)) f ∙ ap (λ (zs : List Text). y ∷ zs) (out_none x ys (sym (ap (λ b. b || is_among text_cmp ys x) f) ∙ h)))

total_out : (f : Text → ℤ) (x : Text) (ys : List Text) → AreOnce ys → is_among text_cmp ys x ≡ true → total f ys ≡ f x +ℤ total f (out x ys)
total_out f x [] once h = true_false false h refl
total_out f x (y ∷ ys) once h = bool_cases (same_id x y)
    (λ t.
    let same : x ≡ y = same_is x y t in
    let rest : out x ys ≡ ys = out_none x ys (ap (is_among text_cmp ys) same ∙ none_among y ys (head_once y ys once)) in
    ap (λ z. f z +ℤ total f ys) (sym same) ∙ ap (λ zs. f x +ℤ total f zs) (sym rest) ∙ sym (ap (λ b. f x +ℤ total f (cond (not b) (y ∷ out x ys) (out x ys))) t))
    (λ n.
    let there : is_among text_cmp ys x ≡ true = sym (ap (λ b. b || is_among text_cmp ys x) n) ∙ h in
    turned (f y) (f x) (total f ys) (total f (out x ys)) (total_out f x ys (once_tail y ys once) there) ∙ sym (ap (λ b. f x +ℤ total f (cond (not b) (y ∷ out x ys) (out x ys))) n))
  where
    turned : (a b c d : ℤ) → c ≡ b +ℤ d → a +ℤ c ≡ b +ℤ (a +ℤ d)
    turned a b c d e = omega (arith, ints, e)

fewer : (q : Text) (p : Text → Bool) (xs : List Text) → hits (same_id q) (filter p xs) ≤ hits (same_id q) xs
fewer q p [] = omega arith
fewer q p (x ∷ xs) =
    let rest = fewer q p xs in
    elim (p x) as (λ b. hits (same_id q) (cond b (x ∷ filter p xs) (filter p xs)) ≤ hits (same_id q) (x ∷ xs)) [ true ↦ omega (arith, rest) | false ↦ omega (arith, rest) ]

once_out : (x : Text) (ys : List Text) → AreOnce ys → AreOnce (out x ys)
once_out x ys once q =
    let some = fewer q (λ y. not (same_id x y)) ys in
    let all : hits (same_id q) ys ≤ 1 = once q in
    omega (arith, some, all)

same_total : (f : Text → ℤ) (xs ys : List Text) → AreOnce xs → AreOnce ys → ((q : Text) → is_among text_cmp xs q ≡ is_among text_cmp ys q) → total f xs ≡ total f ys
same_total f [] [] once_xs once_ys h = refl
same_total f [] (y ∷ ys) once_xs once_ys h = true_false (is_among text_cmp (y ∷ ys) y) (or_left _ _ (same_refl y)) (sym (h y))
same_total f (x ∷ xs) ys once_xs once_ys h =
    let there : is_among text_cmp ys x ≡ true = sym (h x) ∙ or_left (same_id x x) (is_among text_cmp xs x) (same_refl x) in
    let rest : (q : Text) → is_among text_cmp xs q ≡ is_among text_cmp (out x ys) q = λ q.
    left q (same_id x q) refl ∙ sym (among-filter (λ y. not (same_id x y)) ys q ∙ ap (λ b. not (same_id x q) && b) (sym (h q))) in
    ap (λ z. f x +ℤ z) (same_total f xs (out x ys) (once_tail x xs once_xs) (once_out x ys once_ys) rest) ∙ sym (total_out f x ys once_ys there)
  where
    left : (q : Text) (b : Bool) → same_id x q ≡ b → is_among text_cmp xs q ≡ (not (same_id x q) && (same_id q x || is_among text_cmp xs q))
    left q true e =
        ap (is_among text_cmp xs) (sym (same_is x q e)) ∙ none_among x xs (head_once x xs once_xs) ∙ sym (ap (λ b. not b && (same_id q x || is_among text_cmp xs q)) e)
    left q false e =
        sym (ap (λ b. not b && (same_id q x || is_among text_cmp xs q)) e
        ∙ ap (λ b. b || is_among text_cmp xs q) (not_same q x (λ s. is_other x q e (sym s))))

-- ---- one text hands its addend on to another one

module _ (f g : Text → ℤ) (id to : Text) (two : id ≢ to) (others : (q : Text) → q ≢ id → q ≢ to → g q ≡ f q)
    (xs ys : List Text) (once_xs : AreOnce xs) (once_ys : AreOnce ys) (rest : (q : Text) → is_among text_cmp ys q ≡ (not (same_id id q) && is_among text_cmp xs q)) where
  not_id : (q : Text) → is_among text_cmp ys q ≡ true → q ≢ id
  not_id q h e =
      let parts = both_true (not (same_id id q)) (is_among text_cmp xs q) (sym (rest q) ∙ h) in
      true_false (not (same_id id q)) parts.0 (ap not (ap (same_id id) e ∙ same_refl id))

  -- where both are listed, the sum stays
  pub both_listed : is_among text_cmp xs id ≡ true → is_among text_cmp xs to ≡ true → g to ≡ f to +ℤ f id → total g ys ≡ total f xs
  both_listed id_in to_in handed =
      let to_left : is_among text_cmp ys to ≡ true = rest to ∙ ap (λ b. not b && is_among text_cmp xs to) (not_same id to two) ∙ to_in in
      let before : total f xs ≡ f id +ℤ total f (out id xs) = total_out f id xs once_xs id_in in
      let same : total f (out id xs) ≡ total f ys = same_total f (out id xs) ys (once_out id xs once_xs) once_ys (λ q. among-filter (λ y. not (same_id id y)) xs q ∙ sym (rest q)) in
      let of_f : total f ys ≡ f to +ℤ total f (out to ys) = total_out f to ys once_ys to_left in
      let of_g : total g ys ≡ g to +ℤ total g (out to ys) = total_out g to ys once_ys to_left in
      let alike : total g (out to ys) ≡ total f (out to ys) = total_on g f (out to ys) (λ q h.
      let parts = both_true (not (same_id to q)) (is_among text_cmp ys q) (sym (among-filter (λ y. not (same_id to y)) ys q) ∙ h) in
      others q (not_id q parts.1) (λ e. true_false (not (same_id to q)) parts.0 (ap not (ap (same_id to) e ∙ same_refl to)))) in
      sums (total f xs) (f id) (total f (out id xs)) (total f ys) (f to) (total f (out to ys)) (total g ys) (g to) (total g (out to ys)) before same of_f of_g alike handed
    where
      sums : (a i b c t d e u v : ℤ) → a ≡ i +ℤ b → b ≡ c → c ≡ t +ℤ d → e ≡ u +ℤ v → v ≡ d → u ≡ t +ℤ i → e ≡ a
      sums a i b c t d e u v p q r s w x = omega (arith, ints, p, q, r, s, w, x)

  -- where neither is, it stays too
  pub none_listed : is_among text_cmp xs id ≡ false → is_among text_cmp xs to ≡ false → total g ys ≡ total f xs
  none_listed id_out to_out =
      total_on g f ys (λ q h. others q (not_id q h) (λ e.
      let parts = both_true (not (same_id id q)) (is_among text_cmp xs q) (sym (rest q) ∙ h) in
      true_false (is_among text_cmp xs q) parts.1 (ap (is_among text_cmp xs) e ∙ to_out)))
      ∙ same_total f ys xs once_ys once_xs (λ q. rest q ∙ bool_cases (same_id id q)
      (λ t. ap (λ b. not b && is_among text_cmp xs q) t ∙ sym (ap (is_among text_cmp xs) (sym (same_is id q t)) ∙ id_out))
      (λ n. ap (λ b. not b && is_among text_cmp xs q) n))

-- ---- live categories

once_some : (p : BudgetGroup → Bool) (q : Text) (gs : List BudgetGroup) → hits (same_id q) (categories_of (filter p gs)) ≤ hits (same_id q) (categories_of gs)
once_some p q [] = omega arith
once_some p q (g ∷ gs) =
    let rest = once_some p q gs in
    let all = hits-append (same_id q) g.categories (categories_of gs) in
    let some = hits-append (same_id q) g.categories (categories_of (filter p gs)) in
    elim (p g) as (λ b. hits (same_id q) (categories_of (cond b (g ∷ filter p gs) (filter p gs))) ≤ hits (same_id q) (categories_of (g ∷ gs))) [
      | true ↦ omega (arith, rest, all, some)
      | false ↦ omega (arith, rest, all)
    ]

module _ (rows : Rows) where
  pub all_once : AreOnce (categories (budget_of rows))
  all_once q = categories_once rows q

  pub income_once : AreOnce (income (budget_of rows))
  income_once q =
      let some = once_some (λ g. g.is_income) q (budget_of rows).groups in
      let all = all_once q in
      omega (arith, some, all)

  pub expense_once : AreOnce (expense (budget_of rows))
  expense_once q =
      let some = once_some (λ g. not g.is_income) q (budget_of rows).groups in
      let all = all_once q in
      omega (arith, some, all)

  -- a live category takes income or is for expenses
  expense_is : (id : Text) → is_live_category rows id ≡ true → is_expense_category rows id ≡ not (is_income_category rows id)
  expense_is id live = by (get rows.categories id) live
    where
      both : (a b : Bool) → a ≡ true → (a && not b) ≡ not (a && b)
      both true b h = refl
      both false b h = true_false false h refl

      by : (o : Option CategoryRow) → some_and (is_live_category_row rows) o ≡ true
          → some_and (λ c. is_live_category_row rows c && not (has_income_group rows c)) o ≡ not (some_and (λ c. is_live_category_row rows c && has_income_group rows c) o)
      by None h = true_false false h refl
      by (Some c) h = both (is_live_category_row rows c) (has_income_group rows c) h

-- ---- cells of categories

-- what is left in a category goes by what two budgets say of it
module _ (a b : Budget) (c : Text) (s : SayTheSame a b c) where
  carried_same : (n : ℕ) → carried_before a c n ≡ carried_before b c n
  carried_same zero = refl
  carried_same (suc m) = s.carries m

  left_same : (n : ℕ) → leftover_before a c n ≡ leftover_before b c n
  left_same zero = refl
  left_same (suc m) =
      ap₂ (λ (x y : ℤ). x +ℤ y) (ap₂ (λ (x y : ℤ). x +ℤ y) (s.budgeted m) (s.category_sum m))
      (ap₂ rolled (carried_same m) (left_same m))

  -- and so does each of its cells, where it is listed in both or in neither
  cell_same : (m : ℕ) (k : CellKind) → is_of_category k ≡ true → is_among text_cmp (categories a) c ≡ is_among text_cmp (categories b) c → is_among text_cmp (expense a) c ≡ is_among text_cmp (expense b) c → value_of a m k c ≡ value_of b m k c
  cell_same m TotalIncome t l e = cc
  cell_same m FromLastMonth t l e = cc
  cell_same m AvailableFunds t l e = cc
  cell_same m LastMonthOverspent t l e = cc
  cell_same m TotalBudgeted t l e = cc
  cell_same m Buffered t l e = cc
  cell_same m ToBudget t l e = cc
  cell_same m TotalSpent t l e = cc
  cell_same m TotalLeftover t l e = cc
  cell_same m GroupSum t l e = cc
  cell_same m GroupBudget t l e = cc
  cell_same m GroupLeftover t l e = cc
  cell_same m Sum t l e = ap₂ (λ (h : Bool) (z : ℤ). cond h (Some z) None) l (s.category_sum m)
  cell_same m OfBudget t l e = ap₂ (λ (h : Bool) (z : ℤ). cond h (Some z) None) e (s.budgeted m)
  cell_same m Carryover t l e = ap₂ (λ (h : Bool) (z : ℤ). cond h (Some z) None) e (ap flag_value (s.carries m))
  cell_same m Leftover t l e = ap₂ (λ (h : Bool) (z : ℤ). cond h (Some z) None) e (left_same (suc m))

-- ---- a category that is handed on

module _ (r s : Rows) (id to : Text) (two : id ≢ to) (live_id : is_live_category r id ≡ true) (live_to : is_live_category r to ≡ true) (kind : is_income_category r id ≡ is_income_category r to)
    (live_then : (q : Text) → is_live_category s q ≡ (not (same_id id q) && is_live_category r q))
    (income_then : (q : Text) → is_income_category s q ≡ (not (same_id id q) && is_income_category r q))
    (expense_then : (q : Text) → is_expense_category s q ≡ (not (same_id id q) && is_expense_category r q))
    (sums : (month : ℕ) → SumsAreHandedOn r s id to month) (budgets : BudgetsAreHandedOn r s id to) where
  abbrev before : LiveOnesAreListed r
  before = live_ones_are_listed_lem r

  abbrev after : LiveOnesAreListed s
  after = live_ones_are_listed_lem s

  income_rest : (q : Text) → is_among text_cmp (income (budget_of s)) q ≡ (not (same_id id q) && is_among text_cmp (income (budget_of r)) q)
  income_rest q = after.income q ∙ income_then q ∙ ap (λ b. not (same_id id q) && b) (sym (before.income q))

  expense_rest : (q : Text) → is_among text_cmp (expense (budget_of s)) q ≡ (not (same_id id q) && is_among text_cmp (expense (budget_of r)) q)
  expense_rest q = after.expense q ∙ expense_then q ∙ ap (λ b. not (same_id id q) && b) (sym (before.expense q))

  all_rest : (q : Text) → is_among text_cmp (categories (budget_of s)) q ≡ (not (same_id id q) && is_among text_cmp (categories (budget_of r)) q)
  all_rest q = after.category q ∙ live_then q ∙ ap (λ b. not (same_id id q) && b) (sym (before.category q))

  module _ (f g : Text → ℤ) (others : (q : Text) → q ≢ id → q ≢ to → g q ≡ f q) where
    -- over the categories that take income, and over those of expenses
    income_stays : (is_income_category r id ≡ true → g to ≡ f to +ℤ f id) → total g (income (budget_of s)) ≡ total f (income (budget_of r))
    income_stays handed = bool_cases (is_income_category r id)
        (λ t. both_listed f g id to two others (income (budget_of r)) (income (budget_of s)) (income_once r) (income_once s) income_rest (before.income id ∙ t) (before.income to ∙ sym kind ∙ t) (handed t))
        (λ n. none_listed f g id to two others (income (budget_of r)) (income (budget_of s)) (income_once r) (income_once s) income_rest (before.income id ∙ n) (before.income to ∙ sym kind ∙ n))

    expense_stays : (is_income_category r id ≡ false → g to ≡ f to +ℤ f id) → total g (expense (budget_of s)) ≡ total f (expense (budget_of r))
    expense_stays handed =
        let id_is = before.expense id ∙ expense_is r id live_id in
        let to_is = before.expense to ∙ expense_is r to live_to ∙ ap not (sym kind) in
        bool_cases (is_income_category r id)
        (λ t. none_listed f g id to two others (expense (budget_of r)) (expense (budget_of s)) (expense_once r) (expense_once s) expense_rest (id_is ∙ ap not t) (to_is ∙ ap not t))
        (λ n. both_listed f g id to two others (expense (budget_of r)) (expense (budget_of s)) (expense_once r) (expense_once s) expense_rest (id_is ∙ ap not n) (to_is ∙ ap not n) (handed n))

    all_stay : g to ≡ f to +ℤ f id → total g (categories (budget_of s)) ≡ total f (categories (budget_of r))
    all_stay handed = both_listed f g id to two others (categories (budget_of r)) (categories (budget_of s)) (all_once r) (all_once s) all_rest (before.category id ∙ live_id) (before.category to ∙ live_to) handed

  -- no cell of another category changes
  said_same : (c : Text) → c ≢ id → c ≢ to → SayTheSame (budget_of s) (budget_of r) c
  said_same c not_id not_to = record {
    category_sum = λ m. (sums (month_at m)).others c not_id not_to;
    budgeted = λ m. budgets.given c (month_at m) not_to;
    carries = λ m. budgets.carried c (month_at m);
  }

  stays_listed : (c : Text) (listed : Bool) → c ≢ id → (not (same_id id c) && listed) ≡ listed
  stays_listed c listed not_id = ap (λ b. not b && listed) (not_same id c (λ e. not_id (sym e)))

  pub cells_stay : CellsAreHandedOn r s id to
  cells_stay = record {
    none = λ name t e. others_count_nowhere_lem.none (budget_of s) name t
        (ap (is_among text_cmp (categories (budget_of s))) e ∙ all_rest id ∙ ap (λ b. not b && is_among text_cmp (categories (budget_of r)) id) (same_refl id));
    others = λ name t not_id not_to.
        cell_same (budget_of s) (budget_of r) name.id (said_same name.id not_id not_to) (month_number name.month) name.kind t
        (all_rest name.id ∙ stays_listed name.id (is_among text_cmp (categories (budget_of r)) name.id) not_id)
        (expense_rest name.id ∙ stays_listed name.id (is_among text_cmp (expense (budget_of r)) name.id) not_id);
  }

  abbrev sum_of : Rows → ℕ → Text → ℤ
  sum_of rows m c = (budget_of rows).category_sum c m

  money_stays : (n : ℕ) → money_before (budget_of s) n ≡ money_before (budget_of r) n
  money_stays zero = refl
  money_stays (suc m) =
      ap (λ z. z +ℤ total (sum_of s m) (categories (budget_of s))) (money_stays m)
      ∙ ap (λ z. money_before (budget_of r) m +ℤ z) (all_stay (sum_of r m) (sum_of s m) (sums (month_at m)).others (sums (month_at m)).both)

  left_stays : (m : ℕ) → to_budget (budget_of s) m +ℤ total_leftover (budget_of s) m ≡ to_budget (budget_of r) m +ℤ total_leftover (budget_of r) m
  left_stays m = both_kept (to_budget (budget_of s) m) ((budget_of s).buffered m) (total_leftover (budget_of s) m) (money (budget_of s) m)
      (to_budget (budget_of r) m) ((budget_of r).buffered m) (total_leftover (budget_of r) m) (money (budget_of r) m)
      (money_is_kept_lem (budget_of s) m) (money_is_kept_lem (budget_of r) m) (budgets.held (month_at m)) (money_stays (suc m))
    where
      both_kept : (a b c d e f g h : ℤ) → (a +ℤ b) +ℤ c ≡ d → (e +ℤ f) +ℤ g ≡ h → b ≡ f → d ≡ h → a +ℤ c ≡ e +ℤ g
      both_kept a b c d e f g h p q t u = omega (arith, ints, p, q, t, u)

  pub month_stays : (m : ℕ) → WholeMonthStays r s m
  month_stays m = record {
    income = income_stays (sum_of r m) (sum_of s m) (sums (month_at m)).others (λ t. (sums (month_at m)).both);
    spent = expense_stays (sum_of r m) (sum_of s m) (sums (month_at m)).others (λ n. (sums (month_at m)).both);
    given = λ is. ap neg_ℤ (expense_stays (λ c. (budget_of r).budgeted c m) (λ c. (budget_of s).budgeted c m) (λ q not_id not_to. budgets.given q (month_at m) not_to) (λ n. budgets.both n (month_at m) is));
    money = left_stays m;
  }
