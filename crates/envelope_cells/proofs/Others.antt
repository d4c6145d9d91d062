-- What is said of a category that is not live counts nowhere.
use Rattle.std.proofs.Common.{◌≡◌, ℕ, Bool, true, false, not, cond, List, [], ◌∷◌, Some, None, zero, suc, refl, ap, sym, ◌∙◌}
use lib.IntN.{ℤ, neg_ℤ}
use Rattle.std.specs.List.{filter}
use Rattle.std.specs.Ordering.{eq_by_cmp}
use Rattle.finite_sums.specs.Sums.{total}
use Rattle.finite_sums.specs.Maps.{Text, text_cmp, is_among}
use Rattle.envelope_cells.specs.Budget.{Budget, categories_of, categories, expense}
use Rattle.envelope_cells.specs.declared.groups.BudgetGroup.{BudgetGroup}
use Rattle.envelope_cells.specs.Cells.{carried_before, buffered_before, leftover_before, leftover, taken_from, total_income, last_month_overspent, all_budgeted, total_spent, total_leftover, to_budget_before, from_last_month, available_funds}
use Rattle.envelope_cells.specs.CellOf.{of_month, of_category, of_group, group_named, flag_value, value_of, is_of_category}
use Rattle.envelope_cells.specs.declared.name.CellKind.{CellKind}
use Rattle.envelope_cells.specs.declared.name.CellKind.TheVariants.{TotalIncome, FromLastMonth, AvailableFunds, LastMonthOverspent, TotalBudgeted, Buffered, ToBudget, TotalSpent, TotalLeftover, GroupSum, GroupBudget, GroupLeftover, Sum, Budget as OfBudget, Carryover, Leftover}
use Rattle.envelope_cells.specs.Laws.{SayTheSame, AgreeOnLive, OthersCountNowhere}
use Rattle.envelope_cells.proofs.Among.{of_some, in_front, in_back, total_on}

module _ (a b : Budget) where
  carried_same : (c : Text) → SayTheSame a b c → (n : ℕ) → carried_before a c n ≡ carried_before b c n
  carried_same c s zero = refl
  carried_same c s (suc m) = s.carries m

  left_same : (c : Text) → SayTheSame a b c → (n : ℕ) → leftover_before a c n ≡ leftover_before b c n
  left_same c s zero = refl
  left_same c s (suc m) =
      let given = s.budgeted m in
      let sum = s.category_sum m in
      let flag = carried_same c s m in
      let past = left_same c s m in
      cc

  taken_same : (c : Text) → SayTheSame a b c → (m : ℕ) → taken_from a c m ≡ taken_from b c m
  taken_same c s m =
      let flag = carried_same c s m in
      let past = left_same c s m in
      cc

module _ (a b : Budget) (e : AgreeOnLive a b) where
  -- sums over the categories of some groups
  sum_same : (f g : Text → ℤ) (p : BudgetGroup → Bool) → ((c : Text) → SayTheSame a b c → f c ≡ g c) → total f (categories_of (filter p a.groups)) ≡ total g (categories_of (filter p b.groups))
  sum_same f g p h =
      ap (λ gs. total f (categories_of (filter p gs))) e.groups
      ∙ total_on f g (categories_of (filter p b.groups)) (λ c k. h c (e.live c (of_some p b.groups c k)))

  income_same : (m : ℕ) → total_income a m ≡ total_income b m
  income_same m = sum_same (λ c. a.category_sum c m) (λ c. b.category_sum c m) (λ g. g.is_income) (λ c s. s.category_sum m)

  spent_same : (m : ℕ) → total_spent a m ≡ total_spent b m
  spent_same m = sum_same (λ c. a.category_sum c m) (λ c. b.category_sum c m) (λ g. not g.is_income) (λ c s. s.category_sum m)

  budgeted_same : (m : ℕ) → all_budgeted a m ≡ all_budgeted b m
  budgeted_same m = sum_same (λ c. a.budgeted c m) (λ c. b.budgeted c m) (λ g. not g.is_income) (λ c s. s.budgeted m)

  leftover_same : (m : ℕ) → total_leftover a m ≡ total_leftover b m
  leftover_same m = sum_same (λ c. leftover a c m) (λ c. leftover b c m) (λ g. not g.is_income) (λ c s. left_same a b c s (suc m))

  overspent_same : (m : ℕ) → last_month_overspent a m ≡ last_month_overspent b m
  overspent_same m = sum_same (λ c. taken_from a c m) (λ c. taken_from b c m) (λ g. not g.is_income) (λ c s. taken_same a b c s m)

  held_same : (n : ℕ) → buffered_before a n ≡ buffered_before b n
  held_same zero = refl
  held_same (suc m) = e.buffered m

  to_budget_same : (n : ℕ) → to_budget_before a n ≡ to_budget_before b n
  to_budget_same zero = refl
  to_budget_same (suc m) =
      let one = income_same m in
      let two = to_budget_same m in
      let three = held_same m in
      let four = overspent_same m in
      let five = budgeted_same m in
      let six = e.buffered m in
      cc

  from_same : (m : ℕ) → from_last_month a m ≡ from_last_month b m
  from_same m =
      let one = to_budget_same m in
      let two = held_same m in
      cc

  available_same : (m : ℕ) → available_funds a m ≡ available_funds b m
  available_same m =
      let one = income_same m in
      let two = from_same m in
      cc

  -- the cell of a group, which is one of some
  group_same : (f g : Text → ℤ) (gs : List BudgetGroup) (id : Text) → ((c : Text) → is_among text_cmp (categories_of gs) c ≡ true → f c ≡ g c) → of_group f (group_named gs id) ≡ of_group g (group_named gs id)
  group_same f g [] id h = refl
  group_same f g (k ∷ gs) id h =
      by (eq_by_cmp text_cmp id k.id)
      (ap Some (total_on f g k.categories (λ c m. h c (in_front k.categories (categories_of gs) c m))))
      (group_same f g gs id (λ c m. h c (in_back k.categories (categories_of gs) c m)))
    where
      by : (t : Bool) → Some (total f k.categories) ≡ Some (total g k.categories) → of_group f (group_named gs id) ≡ of_group g (group_named gs id) → of_group f (cond t (Some k) (group_named gs id)) ≡ of_group g (cond t (Some k) (group_named gs id))
      by true p q = p
      by false p q = q

  groups_same : (f g : Text → ℤ) (p : BudgetGroup → Bool) (id : Text) → ((c : Text) → SayTheSame a b c → f c ≡ g c) → of_group f (group_named (filter p a.groups) id) ≡ of_group g (group_named (filter p b.groups) id)
  groups_same f g p id h =
      ap (λ gs. of_group f (group_named (filter p gs) id)) e.groups
      ∙ group_same f g (filter p b.groups) id (λ c k. h c (e.live c (of_some p b.groups c k)))

  all_groups_same : (f g : Text → ℤ) (id : Text) → ((c : Text) → SayTheSame a b c → f c ≡ g c) → of_group f (group_named a.groups id) ≡ of_group g (group_named b.groups id)
  all_groups_same f g id h =
      ap (λ gs. of_group f (group_named gs id)) e.groups
      ∙ group_same f g b.groups id (λ c k. h c (e.live c k))

  -- the cell of a category, which is one of some
  category_same : (cs : List Text) (id : Text) (x y : ℤ) → (is_among text_cmp cs id ≡ true → x ≡ y) → of_category cs id x ≡ of_category cs id y
  category_same cs id x y h = by (is_among text_cmp cs id) h
    where
      by : (t : Bool) → (t ≡ true → x ≡ y) → cond t (Some x) None ≡ cond t (Some y) None
      by true h = ap Some (h refl)
      by false h = refl

  expense_same : (id : Text) (x y : ℤ) → (SayTheSame a b id → x ≡ y) → of_category (expense a) id x ≡ of_category (expense b) id y
  expense_same id x y h =
      ap (λ gs. of_category (categories_of (filter (λ g. not g.is_income) gs)) id x) e.groups
      ∙ category_same (expense b) id x y (λ k. h (e.live id (of_some (λ g. not g.is_income) b.groups id k)))

  value_same : (m : ℕ) (k : CellKind) (id : Text) → value_of a m k id ≡ value_of b m k id
  value_same m TotalIncome id = ap (of_month id) (income_same m)
  value_same m FromLastMonth id = ap (of_month id) (from_same m)
  value_same m AvailableFunds id = ap (of_month id) (available_same m)
  value_same m LastMonthOverspent id = ap (of_month id) (overspent_same m)
  value_same m TotalBudgeted id = ap (λ z. of_month id (neg_ℤ z)) (budgeted_same m)
  value_same m Buffered id = ap (of_month id) (e.buffered m)
  value_same m ToBudget id = ap (of_month id) (to_budget_same (suc m))
  value_same m TotalSpent id = ap (of_month id) (spent_same m)
  value_same m TotalLeftover id = ap (of_month id) (leftover_same m)
  value_same m GroupSum id = all_groups_same (λ c. a.category_sum c m) (λ c. b.category_sum c m) id (λ c s. s.category_sum m)
  value_same m GroupBudget id = groups_same (λ c. a.budgeted c m) (λ c. b.budgeted c m) (λ g. not g.is_income) id (λ c s. s.budgeted m)
  value_same m GroupLeftover id = groups_same (λ c. leftover a c m) (λ c. leftover b c m) (λ g. not g.is_income) id (λ c s. left_same a b c s (suc m))
  value_same m Sum id =
      ap (λ gs. of_category (categories_of gs) id (a.category_sum id m)) e.groups
      ∙ category_same (categories b) id (a.category_sum id m) (b.category_sum id m) (λ k. (e.live id k).category_sum m)
  value_same m OfBudget id = expense_same id (a.budgeted id m) (b.budgeted id m) (λ s. s.budgeted m)
  value_same m Carryover id = expense_same id (flag_value (a.carries id m)) (flag_value (b.carries id m)) (λ s. ap flag_value (s.carries m))
  value_same m Leftover id = expense_same id (leftover a id m) (leftover b id m) (λ s. left_same a b id s (suc m))

-- one that is not listed has no cell
no_category : (cs : List Text) (id : Text) (z : ℤ) → is_among text_cmp cs id ≡ false → of_category cs id z ≡ None
no_category cs id z h = ap (λ t. cond t (Some z) None) h

not_expense : (b : Budget) (id : Text) → is_among text_cmp (categories b) id ≡ false → is_among text_cmp (expense b) id ≡ false
not_expense b id h = by (is_among text_cmp (expense b) id) refl
  where
    by : (t : Bool) → is_among text_cmp (expense b) id ≡ t → t ≡ false
    by true k = sym (of_some (λ g. not g.is_income) b.groups id k) ∙ h
    by false k = refl

no_value : (b : Budget) (m : ℕ) (k : CellKind) (id : Text) → is_of_category k ≡ true → is_among text_cmp (categories b) id ≡ false → value_of b m k id ≡ None
no_value b m TotalIncome id t h = cc
no_value b m FromLastMonth id t h = cc
no_value b m AvailableFunds id t h = cc
no_value b m LastMonthOverspent id t h = cc
no_value b m TotalBudgeted id t h = cc
no_value b m Buffered id t h = cc
no_value b m ToBudget id t h = cc
no_value b m TotalSpent id t h = cc
no_value b m TotalLeftover id t h = cc
no_value b m GroupSum id t h = cc
no_value b m GroupBudget id t h = cc
no_value b m GroupLeftover id t h = cc
no_value b m Sum id t h = no_category (categories b) id (b.category_sum id m) h
no_value b m OfBudget id t h = no_category (expense b) id (b.budgeted id m) (not_expense b id h)
no_value b m Carryover id t h = no_category (expense b) id (flag_value (b.carries id m)) (not_expense b id h)
no_value b m Leftover id t h = no_category (expense b) id (leftover b id m) (not_expense b id h)

pub others_count_nowhere_lem : OthersCountNowhere
others_count_nowhere_lem = record {
  same = λ a b e name. value_same a b e _ name.kind name.id;
  none = λ b name t h. no_value b _ name.kind name.id t h;
}
