-- Which cells of a month stay, from what budgets say.
use Rattle.std.proofs.Common.{◌≡◌, ℕ, ◌<◌, Bool, true, false, true≢false, not, cond, List, [], ◌∷◌, Option, Some, None, zero, suc, refl, ap, ◌∙◌, arith}
use lib.IntN.{ℤ, neg_ℤ}
use Rattle.std.specs.List.{filter}
use Rattle.finite_sums.specs.Sums.{total}
use Rattle.finite_sums.specs.Maps.{Text, text_cmp, is_among}
use Rattle.envelope_cells.specs.Budget.{Budget, categories_of, categories, expense, expense_groups}
use Rattle.envelope_cells.specs.Cells.{carried_before, buffered_before, leftover_before, leftover, taken_from, total_income, last_month_overspent, all_budgeted, total_spent, total_leftover, to_budget_before, from_last_month}
use Rattle.envelope_cells.specs.CellOf.{of_month, of_category, of_group, group_named, flag_value, value_of}
use Rattle.envelope_cells.specs.declared.name.CellKind.{CellKind}
use Rattle.envelope_cells.specs.declared.name.CellKind.TheVariants.{TotalIncome, FromLastMonth, AvailableFunds, LastMonthOverspent, TotalBudgeted, Buffered, ToBudget, TotalSpent, TotalLeftover, GroupSum, GroupBudget, GroupLeftover, Sum, Budget as OfBudget, Carryover, Leftover}
use Rattle.envelope_cells.specs.Laws.{SayTheSame}
use Rattle.envelope_cells.proofs.Among.{total_on}
use Rattle.envelope_cells.specs.declared.groups.BudgetGroup.{BudgetGroup}
use Rattle.dirty_cells.specs.Grid.{is_pending, SameBut, SameBefore}

module _ (a b : Budget) where
  carried_same : (c : Text) → SayTheSame a b c → (n : ℕ) → carried_before a c n ≡ carried_before b c n
  carried_same c s zero = refl
  carried_same c s (suc m) = s.carries m

  left_same : (c : Text) → SayTheSame a b c → (n : ℕ) → leftover_before a c n ≡ leftover_before b c n
  left_same c s zero = refl
  left_same c s (suc m) =
      let given = s.budgeted m in
      let sum = s.category_sum m in
      let flag = carried_same c s m in
      let past = left_same c s m in
      cc

-- ---- cells that are not pending stay, in each month
category_stays : (cs ds : List Text) (id : Text) (x y : ℤ) → is_among text_cmp cs id ≡ is_among text_cmp ds id → x ≡ y → of_category cs id x ≡ of_category ds id y
category_stays cs ds id x y h e = ap (λ t. cond t (Some x) None) h ∙ ap (λ z. cond (is_among text_cmp ds id) (Some z) None) e

group_stays_by : (f g : Text → ℤ) (o p : Option BudgetGroup) → o ≡ p → ((k : BudgetGroup) → p ≡ Some k → (c : Text) → is_among text_cmp k.categories c ≡ true → f c ≡ g c) → of_group f o ≡ of_group g p
group_stays_by f g o p e h = ap (of_group f) e ∙ by p h
  where
    by : (q : Option BudgetGroup) → ((k : BudgetGroup) → q ≡ Some k → (c : Text) → is_among text_cmp k.categories c ≡ true → f c ≡ g c) → of_group f q ≡ of_group g q
    by None h = refl
    by (Some k) h = ap Some (total_on f g k.categories (h k refl))

module _ (a b : Budget) (cs gs : List Text) (same : SameBut a b cs gs) where
  all_groups : (f g : Text → ℤ) (id : Text) → is_among text_cmp gs id ≡ false → ((c : Text) → SayTheSame a b c → f c ≡ g c) → of_group f (group_named a.groups id) ≡ of_group g (group_named b.groups id)
  all_groups f g id off h = group_stays_by f g (group_named a.groups id) (group_named b.groups id) (same.group id off) (λ k e c m. h c (same.said c (same.members id k c off e m)))

  expense_ones : (f g : Text → ℤ) (id : Text) → is_among text_cmp gs id ≡ false → ((c : Text) → SayTheSame a b c → f c ≡ g c) → of_group f (group_named (expense_groups a) id) ≡ of_group g (group_named (expense_groups b) id)
  expense_ones f g id off h = group_stays_by f g (group_named (expense_groups a) id) (group_named (expense_groups b) id) (same.expenses id off) (λ k e c m. h c (same.said c (same.spenders id k c off e m)))

  -- whatever whole months say
  pub stays : (m : ℕ) (kind : CellKind) (id : Text) → is_pending cs gs true kind id ≡ false → value_of a m kind id ≡ value_of b m kind id
  stays m TotalIncome [] h = absurd (true≢false h)
  stays m TotalIncome (x ∷ id) h = refl
  stays m FromLastMonth [] h = absurd (true≢false h)
  stays m FromLastMonth (x ∷ id) h = refl
  stays m AvailableFunds [] h = absurd (true≢false h)
  stays m AvailableFunds (x ∷ id) h = refl
  stays m LastMonthOverspent [] h = absurd (true≢false h)
  stays m LastMonthOverspent (x ∷ id) h = refl
  stays m TotalBudgeted [] h = absurd (true≢false h)
  stays m TotalBudgeted (x ∷ id) h = refl
  stays m Buffered [] h = absurd (true≢false h)
  stays m Buffered (x ∷ id) h = refl
  stays m ToBudget [] h = absurd (true≢false h)
  stays m ToBudget (x ∷ id) h = refl
  stays m TotalSpent [] h = absurd (true≢false h)
  stays m TotalSpent (x ∷ id) h = refl
  stays m TotalLeftover [] h = absurd (true≢false h)
  stays m TotalLeftover (x ∷ id) h = refl
  stays m GroupSum id h = all_groups (λ c. a.category_sum c m) (λ c. b.category_sum c m) id h (λ c s. s.category_sum m)
  stays m GroupBudget id h = expense_ones (λ c. a.budgeted c m) (λ c. b.budgeted c m) id h (λ c s. s.budgeted m)
  stays m GroupLeftover id h = expense_ones (λ c. leftover a c m) (λ c. leftover b c m) id h (λ c s. left_same a b c s (suc m))
  stays m Sum id h = category_stays (categories a) (categories b) id (a.category_sum id m) (b.category_sum id m) (same.listed id h) ((same.said id h).category_sum m)
  stays m OfBudget id h = category_stays (expense a) (expense b) id (a.budgeted id m) (b.budgeted id m) (same.spent id h) ((same.said id h).budgeted m)
  stays m Carryover id h = category_stays (expense a) (expense b) id (flag_value (a.carries id m)) (flag_value (b.carries id m)) (same.spent id h) (ap flag_value ((same.said id h).carries m))
  stays m Leftover id h = category_stays (expense a) (expense b) id (leftover a id m) (leftover b id m) (same.spent id h) (left_same a b id (same.said id h) (suc m))

-- ---- each cell of a month before the first that is touched stays
module _ (a b : Budget) (n : ℕ) (same : SameBefore a b n) where
  carried_then : (c : Text) (m : ℕ) → m < suc n → carried_before a c m ≡ carried_before b c m
  carried_then c zero l = refl
  carried_then c (suc m) l = same.carries c m (omega (arith, l))

  left_then : (c : Text) (m : ℕ) → m < suc n → leftover_before a c m ≡ leftover_before b c m
  left_then c zero l = refl
  left_then c (suc m) l =
      let given = same.budgeted c m (omega (arith, l)) in
      let sum = same.sums c m (omega (arith, l)) in
      let flag = carried_then c m (omega (arith, l)) in
      let past = left_then c m (omega (arith, l)) in
      cc

  taken_then : (c : Text) (m : ℕ) → m < suc n → taken_from a c m ≡ taken_from b c m
  taken_then c m l =
      let flag = carried_then c m l in
      let past = left_then c m l in
      cc

  over : (f g : Text → ℤ) (p : BudgetGroup → Bool) → ((c : Text) → f c ≡ g c) → total f (categories_of (filter p a.groups)) ≡ total g (categories_of (filter p b.groups))
  over f g p h = ap (λ gs. total f (categories_of (filter p gs))) same.groups ∙ total_on f g (categories_of (filter p b.groups)) (λ c k. h c)

  income_then : (m : ℕ) → m < n → total_income a m ≡ total_income b m
  income_then m l = over (λ c. a.category_sum c m) (λ c. b.category_sum c m) (λ g. g.is_income) (λ c. same.sums c m l)

  spent_then : (m : ℕ) → m < n → total_spent a m ≡ total_spent b m
  spent_then m l = over (λ c. a.category_sum c m) (λ c. b.category_sum c m) (λ g. not g.is_income) (λ c. same.sums c m l)

  budgeted_then : (m : ℕ) → m < n → all_budgeted a m ≡ all_budgeted b m
  budgeted_then m l = over (λ c. a.budgeted c m) (λ c. b.budgeted c m) (λ g. not g.is_income) (λ c. same.budgeted c m l)

  leftover_then : (m : ℕ) → m < n → total_leftover a m ≡ total_leftover b m
  leftover_then m l = over (λ c. leftover a c m) (λ c. leftover b c m) (λ g. not g.is_income) (λ c. left_then c (suc m) (omega (arith, l)))

  overspent_then : (m : ℕ) → m < suc n → last_month_overspent a m ≡ last_month_overspent b m
  overspent_then m l = over (λ c. taken_from a c m) (λ c. taken_from b c m) (λ g. not g.is_income) (λ c. taken_then c m l)

  held_then : (m : ℕ) → m < suc n → buffered_before a m ≡ buffered_before b m
  held_then zero l = refl
  held_then (suc m) l = same.buffered m (omega (arith, l))

  to_budget_then : (m : ℕ) → m < suc n → to_budget_before a m ≡ to_budget_before b m
  to_budget_then zero l = refl
  to_budget_then (suc m) l =
      let below : m < n = omega (arith, l) in
      let before : m < suc n = omega (arith, l) in
      let one = income_then m below in
      let two = to_budget_then m before in
      let three = held_then m before in
      let four = overspent_then m before in
      let five = budgeted_then m below in
      let six = same.buffered m below in
      cc

  from_then : (m : ℕ) → m < suc n → from_last_month a m ≡ from_last_month b m
  from_then m l =
      let one = to_budget_then m l in
      let two = held_then m l in
      cc

  same_group : (f g : Text → ℤ) (p : BudgetGroup → Bool) (id : Text) → ((c : Text) → f c ≡ g c) → of_group f (group_named (filter p a.groups) id) ≡ of_group g (group_named (filter p b.groups) id)
  same_group f g p id h = group_stays_by f g (group_named (filter p a.groups) id) (group_named (filter p b.groups) id) (ap (λ gs. group_named (filter p gs) id) same.groups) (λ k e c m. h c)

  same_side : (p : BudgetGroup → Bool) (id : Text) (x y : ℤ) → x ≡ y → of_category (categories_of (filter p a.groups)) id x ≡ of_category (categories_of (filter p b.groups)) id y
  same_side p id x y e = ap (λ gs. of_category (categories_of (filter p gs)) id x) same.groups ∙ ap (of_category (categories_of (filter p b.groups)) id) e

  pub stays_before : (m : ℕ) (kind : CellKind) (id : Text) → m < n → value_of a m kind id ≡ value_of b m kind id
  stays_before m TotalIncome id l = ap (of_month id) (income_then m l)
  stays_before m FromLastMonth id l = ap (of_month id) (from_then m (omega (arith, l)))
  stays_before m AvailableFunds id l =
      let one = income_then m l in
      let two = from_then m (omega (arith, l)) in
      cc
  stays_before m LastMonthOverspent id l = ap (of_month id) (overspent_then m (omega (arith, l)))
  stays_before m TotalBudgeted id l = ap (λ z. of_month id (neg_ℤ z)) (budgeted_then m l)
  stays_before m Buffered id l = ap (of_month id) (same.buffered m l)
  stays_before m ToBudget id l = ap (of_month id) (to_budget_then (suc m) (omega (arith, l)))
  stays_before m TotalSpent id l = ap (of_month id) (spent_then m l)
  stays_before m TotalLeftover id l = ap (of_month id) (leftover_then m l)
  stays_before m GroupSum id l = group_stays_by (λ c. a.category_sum c m) (λ c. b.category_sum c m) (group_named a.groups id) (group_named b.groups id) (ap (λ gs. group_named gs id) same.groups) (λ k e c h. same.sums c m l)
  stays_before m GroupBudget id l = same_group (λ c. a.budgeted c m) (λ c. b.budgeted c m) (λ g. not g.is_income) id (λ c. same.budgeted c m l)
  stays_before m GroupLeftover id l = same_group (λ c. leftover a c m) (λ c. leftover b c m) (λ g. not g.is_income) id (λ c. left_then c (suc m) (omega (arith, l)))
  stays_before m Sum id l = ap (λ gs. of_category (categories_of gs) id (a.category_sum id m)) same.groups ∙ ap (of_category (categories b) id) (same.sums id m l)
  stays_before m OfBudget id l = same_side (λ g. not g.is_income) id (a.budgeted id m) (b.budgeted id m) (same.budgeted id m l)
  stays_before m Carryover id l = same_side (λ g. not g.is_income) id (flag_value (a.carries id m)) (flag_value (b.carries id m)) (ap flag_value (same.carries id m l))
  stays_before m Leftover id l = same_side (λ g. not g.is_income) id (leftover a id m) (leftover b id m) (left_then id (suc m) (omega (arith, l)))
