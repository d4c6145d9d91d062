-- No cell of a book is great.
use Rattle.std.proofs.Common.{◌≡◌, ℕ, ◌+◌, ◌-◌, ◌/◌, ◌%◌, ◌^◌, ◌<◌, ◌≤◌, Bool, true, false, not, cond, List, [], ◌∷◌, ◌++◌, Option, Some, None, suc, unsigned_abs, refl, ap, arith, add-one}
use Rattle.std.specs.Prelude.{◌||◌}
use lib.IntN.{ℤ}
use Rattle.std.proofs.lemmas.Int.{ints}
use Rattle.std.proofs.lemmas.Bool.Decides.{nat_tests}
use Rattle.std.specs.List.{filter}
use Rattle.std.specs.Ordering.{eq_by_cmp}
use Rattle.std.specs.FinMap.{get}
use Rattle.finite_sums.specs.Sums.{total, weight}
use Rattle.finite_sums.specs.Maps.{Text, text_cmp, is_among, value_or_zero}
use Rattle.book_rows.specs.declared.rows.Rows.{Rows}
use Rattle.book_rows.specs.declared.rows.MonthRow.{MonthRow}
use Rattle.book_rows.specs.Book.{HasSizes}
use Rattle.book_rows.specs.Ids.{month_id}
use Rattle.book_rows.specs.Months.{is_month}
use Rattle.envelope_cells.specs.Budget.{Budget, categories, categories_of, income, expense, expense_groups}
use Rattle.envelope_cells.specs.BudgetOf.{budget_of, buffered}
use Rattle.envelope_cells.specs.Cells.{leftover, leftover_before, taken_from, total_income, from_last_month, available_funds, last_month_overspent, all_budgeted, total_budgeted, to_budget, total_spent, total_leftover}
use Rattle.envelope_cells.specs.CellOf.{of_month, of_category, of_group, group_named, flag_value, value_of}
use Rattle.envelope_cells.specs.Ids.{month_number, month_at}
use Rattle.envelope_cells.specs.Laws.{CellsAreSmall}
use Rattle.envelope_cells.specs.Parts.{sums_before, weight_before, IsSmall}
use Rattle.envelope_cells.specs.declared.groups.BudgetGroup.{BudgetGroup}
use Rattle.envelope_cells.specs.declared.name.CellKind.{CellKind}
use Rattle.envelope_cells.specs.declared.name.CellKind.TheVariants.{TotalIncome, FromLastMonth, AvailableFunds, LastMonthOverspent, TotalBudgeted, Buffered, ToBudget, TotalSpent, TotalLeftover, GroupSum, GroupBudget, GroupLeftover, Sum, Budget as OfBudget, Carryover, Leftover}
use Rattle.envelope_cells.specs.declared.part.Pick.TheVariants.{Sum as OfSum, Budget as OfGiven, Leftover as OfLeft, Taken}
use Rattle.envelope_cells.proofs.Among.{same_texts}
use Rattle.envelope_cells.proofs.Bounds.{rows_are_small}
use Rattle.envelope_cells.proofs.Lists.{total_within, weight-append}
use Rattle.envelope_cells.proofs.Money.{all_left_before, money_before_is}
use Rattle.envelope_cells.proofs.Parts.{picked_small, left_small, sums_small, moved_is}

no_some : {P : Type 0} (z : ℤ) → None ≡ Some z → P
no_some z h = absurd (cc)

some_is : (x z : ℤ) → Some x ≡ Some z → x ≡ z
some_is x z h = cc

group_is : (x g : BudgetGroup) → Some x ≡ Some g → x ≡ g
group_is x g h = cc

no_group : {P : Type 0} (g : BudgetGroup) → None ≡ Some g → P
no_group g h = absurd (cc)

month_is : (id : Text) (y z : ℤ) → of_month id y ≡ Some z → y ≡ z
month_is [] y z h = some_is y z h
month_is (x ∷ xs) y z h = no_some z h

-- ---- of a month of some budget
module _ (b : Budget) (n : ℕ) (small : IsSmall b (n + 1)) where
  abbrev w : Text → ℕ
  w c = weight_before b c (suc n)

  all : weight w (categories b) ≤ 2 ^ 118
  all = rw add-one at small.all

  total_small : (f : Text → ℤ) → ((c : Text) → unsigned_abs (f c) ≤ w c) → (cs : List Text) → weight w cs ≤ weight w (categories b) → unsigned_abs (total f cs) ≤ 2 ^ 118
  total_small f h cs k = omega (arith, total_within f w cs h, k, all)

  some_groups : (p : BudgetGroup → Bool) (gs : List BudgetGroup) → weight w (categories_of (filter p gs)) ≤ weight w (categories_of gs)
  some_groups p [] = omega arith
  some_groups p (g ∷ gs) = by (p g) (some_groups p gs)
    where
      by : (t : Bool) → weight w (categories_of (filter p gs)) ≤ weight w (categories_of gs) → weight w (categories_of (cond t (g ∷ filter p gs) (filter p gs))) ≤ weight w (g.categories ++ categories_of gs)
      by true h = omega (arith, h, weight-append w g.categories (categories_of (filter p gs)), weight-append w g.categories (categories_of gs))
      by false h = omega (arith, h, weight-append w g.categories (categories_of gs))

  group_weight : (gs : List BudgetGroup) (id : Text) (g : BudgetGroup) → group_named gs id ≡ Some g → weight w g.categories ≤ weight w (categories_of gs)
  group_weight [] id g h = no_group g h
  group_weight (x ∷ xs) id g h = by (eq_by_cmp text_cmp id x.id) h (group_weight xs id g)
    where
      by : (t : Bool) → cond t (Some x) (group_named xs id) ≡ Some g → (group_named xs id ≡ Some g → weight w g.categories ≤ weight w (categories_of xs)) → weight w g.categories ≤ weight w (x.categories ++ categories_of xs)
      by true k more = omega (arith, weight-append w x.categories (categories_of xs), ap (λ (g : BudgetGroup). weight w g.categories) (group_is x g k))
      by false k more = omega (arith, weight-append w x.categories (categories_of xs), more k)

  among_weight : (cs : List Text) (q : Text) → is_among text_cmp cs q ≡ true → w q ≤ weight w cs
  among_weight [] q h = absurd (cc)
  among_weight (c ∷ cs) q h = by (eq_by_cmp text_cmp q c) refl h (among_weight cs q)
    where
      by : (t : Bool) → eq_by_cmp text_cmp q c ≡ t → (t || is_among text_cmp cs q) ≡ true → (is_among text_cmp cs q ≡ true → w q ≤ weight w cs) → w q ≤ weight w (c ∷ cs)
      by true e k more = omega (arith, ap w (same_texts q c e))
      by false e k more = omega (arith, more k)

  one_small : (cs : List Text) (id : Text) (y z : ℤ) → weight w cs ≤ weight w (categories b) → unsigned_abs y ≤ w id → of_category cs id y ≡ Some z → unsigned_abs z ≤ 2 ^ 118
  one_small cs id y z k s h = by (is_among text_cmp cs id) refl h
    where
      by : (t : Bool) → is_among text_cmp cs id ≡ t → cond t (Some y) None ≡ Some z → unsigned_abs z ≤ 2 ^ 118
      by true e g = omega (arith, among_weight cs id e, k, s, all, ap unsigned_abs (some_is y z g))
      by false e g = no_some z g

  group_small : (f : Text → ℤ) → ((c : Text) → unsigned_abs (f c) ≤ w c) → (gs : List BudgetGroup) → weight w (categories_of gs) ≤ weight w (categories b) → (id : Text) (z : ℤ) → of_group f (group_named gs id) ≡ Some z → unsigned_abs z ≤ 2 ^ 118
  group_small f s gs k id z h = by (group_named gs id) refl h
    where
      by : (o : Option BudgetGroup) → group_named gs id ≡ o → of_group f o ≡ Some z → unsigned_abs z ≤ 2 ^ 118
      by None e g = no_some z g
      by (Some g) e k' = omega (arith, total_small f s g.categories (omega (arith, group_weight gs id g e, k)), ap unsigned_abs (some_is (total f g.categories) z k'))

  sum_within : (c : Text) → unsigned_abs (b.category_sum c n) ≤ w c
  sum_within c = picked_small b n OfSum c

  given_within : (c : Text) → unsigned_abs (b.budgeted c n) ≤ w c
  given_within c = picked_small b n OfGiven c

  left_within : (c : Text) → unsigned_abs (leftover b c n) ≤ w c
  left_within c = picked_small b n OfLeft c

  taken_within : (c : Text) → unsigned_abs (taken_from b c n) ≤ w c
  taken_within c = picked_small b n Taken c

  income_within : weight w (income b) ≤ weight w (categories b)
  income_within = some_groups (λ g. g.is_income) b.groups

  expense_within : weight w (expense b) ≤ weight w (categories b)
  expense_within = some_groups (λ g. not g.is_income) b.groups

  from_last_small : unsigned_abs (from_last_month b n) ≤ 2 ^ 119
  from_last_small =
      let moved : unsigned_abs (total (λ c. sums_before b c n) (categories b)) ≤ 2 ^ 118 = total_small (λ c. sums_before b c n) (λ c. omega (arith, sums_small b c n)) (categories b) (omega arith) in
      let left : unsigned_abs (all_left_before b n) ≤ 2 ^ 118 = total_small (λ c. leftover_before b c n) (λ c. omega (arith, left_small b c n)) (expense b) expense_within in
      omega (arith, ints, moved, left, moved_is b n, money_before_is b n)

  income_small : unsigned_abs (total_income b n) ≤ 2 ^ 118
  income_small = total_small (λ c. b.category_sum c n) sum_within (income b) income_within

  overspent_small : unsigned_abs (last_month_overspent b n) ≤ 2 ^ 118
  overspent_small = total_small (λ c. taken_from b c n) taken_within (expense b) expense_within

  given_small : unsigned_abs (all_budgeted b n) ≤ 2 ^ 118
  given_small = total_small (λ c. b.budgeted c n) given_within (expense b) expense_within

  budgeted_small : unsigned_abs (total_budgeted b n) ≤ 2 ^ 118
  budgeted_small = omega (arith, ints, given_small)

  flag_small : (t : Bool) → unsigned_abs (flag_value t) ≤ 2 ^ 118
  flag_small true = omega arith
  flag_small false = omega arith

  flag_is : (cs : List Text) (id : Text) (t : Bool) (z : ℤ) → of_category cs id (flag_value t) ≡ Some z → unsigned_abs z ≤ 2 ^ 118
  flag_is cs id t z h = by (is_among text_cmp cs id) h
    where
      by : (a : Bool) → cond a (Some (flag_value t)) None ≡ Some z → unsigned_abs z ≤ 2 ^ 118
      by true g = omega (arith, flag_small t, ap unsigned_abs (some_is (flag_value t) z g))
      by false g = no_some z g

  module _ (held : unsigned_abs (b.buffered n) ≤ 2 ^ 64) where
    to_budget_small : unsigned_abs (to_budget b n) ≤ 2 ^ 121
    to_budget_small = omega (arith, ints, income_small, from_last_small, overspent_small, budgeted_small, held)

    value_small : (k : CellKind) (id : Text) (z : ℤ) → value_of b n k id ≡ Some z → unsigned_abs z ≤ 2 ^ 121
    value_small TotalIncome id z h = omega (arith, income_small, ap unsigned_abs (month_is id (total_income b n) z h))
    value_small FromLastMonth id z h = omega (arith, from_last_small, ap unsigned_abs (month_is id (from_last_month b n) z h))
    value_small AvailableFunds id z h = let e = month_is id (available_funds b n) z h in omega (arith, ints, income_small, from_last_small, e)
    value_small LastMonthOverspent id z h = omega (arith, overspent_small, ap unsigned_abs (month_is id (last_month_overspent b n) z h))
    value_small TotalBudgeted id z h = omega (arith, budgeted_small, ap unsigned_abs (month_is id (total_budgeted b n) z h))
    value_small Buffered id z h = omega (arith, held, ap unsigned_abs (month_is id (b.buffered n) z h))
    value_small ToBudget id z h = omega (arith, to_budget_small, ap unsigned_abs (month_is id (to_budget b n) z h))
    value_small TotalSpent id z h = omega (arith, total_small (λ c. b.category_sum c n) sum_within (expense b) expense_within, ap unsigned_abs (month_is id (total_spent b n) z h))
    value_small TotalLeftover id z h = omega (arith, total_small (λ c. leftover b c n) left_within (expense b) expense_within, ap unsigned_abs (month_is id (total_leftover b n) z h))
    value_small GroupSum id z h = omega (arith, group_small (λ c. b.category_sum c n) sum_within b.groups (omega arith) id z h)
    value_small GroupBudget id z h = omega (arith, group_small (λ c. b.budgeted c n) given_within (expense_groups b) expense_within id z h)
    value_small GroupLeftover id z h = omega (arith, group_small (λ c. leftover b c n) left_within (expense_groups b) expense_within id z h)
    value_small Sum id z h = omega (arith, one_small (categories b) id (b.category_sum id n) z (omega arith) (sum_within id) h)
    value_small OfBudget id z h = omega (arith, one_small (expense b) id (b.budgeted id n) z expense_within (given_within id) h)
    value_small Carryover id z h = omega (arith, flag_is (expense b) id (b.carries id n) z h)
    value_small Leftover id z h = omega (arith, one_small (expense b) id (leftover b id n) z expense_within (left_within id) h)

-- ---- of a month of a book
held_small : (r : Rows) → HasSizes r → (month : ℕ) → unsigned_abs (buffered r month) ≤ 2 ^ 64
held_small r sizes month = by (get r.months (month_id month)) refl
  where
    by : (o : Option MonthRow) → get r.months (month_id month) ≡ o → unsigned_abs (value_or_zero (λ (m : MonthRow). m.buffered) o) ≤ 2 ^ 64
    by None e = omega arith
    by (Some m) e = let h = sizes.numbers.months (month_id month) m e in omega (arith, ints, h.low, h.high)

number_below : (month : ℕ) → is_month month ≡ true → month_number month < 2760
number_below month h =
    let year : month / 100 ≤ 2199 = grind (arith, nat_tests) in
    let place : month % 100 ≤ 12 = grind (arith, nat_tests) in
    omega arith

pub cells_are_small_lem : (rows : Rows) → CellsAreSmall rows
cells_are_small_lem rows sizes name valid z h =
    let n = month_number name.month in
    let below : n < 2760 = number_below name.month valid in
    value_small (budget_of rows) n (rows_are_small rows (n + 1) (omega arith) sizes) (held_small rows sizes (month_at n)) name.kind name.id z h
