-- What the groups of a month have together, and what the month before left, from kept cells; and all of it is small.
use Rattle.std.proofs.Common.{◌≡◌, ℕ, suc, ◌+◌, ◌-◌, ◌/◌, ◌%◌, ◌≤◌, ◌<◌, ◌^◌, Bool, true, false, not, cond, List, [], ◌∷◌, ◌++◌, map, Some, unsigned_abs, refl, ap, ◌∙◌, arith}
use Rattle.std.specs.Prelude.{unwrap_or}
use Rattle.std.specs.List.{filter}
use Rattle.std.specs.Ordering.{eq_by_cmp}
use lib.IntN.{ℤ, pos, ◌+ℤ◌}
use Rattle.std.proofs.lemmas.Int.{ints}
use Rattle.std.proofs.lemmas.Bool.Decides.{nat_tests}
use Rattle.std.specs.FinMap.{get}
use Rattle.finite_sums.specs.Sums.{total, weight, only_if}
use Rattle.finite_sums.specs.Maps.{Text, text_cmp, is_among}
use Rattle.book_rows.specs.declared.rows.Rows.{Rows}
use Rattle.book_rows.specs.Book.{HasSizes}
use Rattle.book_rows.specs.Months.{is_month}
use Rattle.envelope_cells.specs.Names.{Cells}
use Rattle.envelope_cells.specs.Budget.{Budget, categories, categories_of}
use Rattle.envelope_cells.specs.BudgetOf.{budget_of, groups_of}
use Rattle.envelope_cells.specs.Places.{ids_of_group, with_categories}
use Rattle.envelope_cells.specs.Cells.{leftover, total_income, total_spent, last_month_overspent, all_budgeted, total_leftover, to_budget, from_last_month}
use Rattle.envelope_cells.specs.CellOf.{value_of}
use Rattle.envelope_cells.specs.Ids.{month_at, month_number}
use Rattle.envelope_cells.specs.Parts.{weight_before}
use Rattle.envelope_cells.specs.declared.groups.BudgetGroup.{BudgetGroup}
use Rattle.envelope_cells.specs.declared.groups.Place.{Place}
use Rattle.envelope_cells.specs.declared.name.CellKind.{CellKind}
use Rattle.envelope_cells.specs.declared.name.CellKind.TheVariants.{ToBudget, Buffered, TotalLeftover, GroupSum, GroupBudget, GroupLeftover}
use Rattle.envelope_cells.proofs.Among.{itself, or_left, or_right}
use Rattle.envelope_cells.proofs.Lists.{weight-append, total_within}
use Rattle.envelope_cells.proofs.Parts.{left_small}
use Rattle.envelope_cells.proofs.Small.{cells_are_small_lem}
use Rattle.dirty_cells.specs.Grid.{is_pending}
use Rattle.dirty_cells.specs.Right.{cell_at, kept_value, AreRightBut, none_pending}
use Rattle.dirty_cells.specs.WholeOf.{IsWhole, kept_of_group, AreTotals, IsBegin, left_before, overspent_by, whole_by}
use Rattle.dirty_cells.specs.declared.whole.Totals.{Totals}
use Rattle.dirty_cells.specs.declared.whole.Begin.{Begin}
use Rattle.dirty_cells.proofs.Listed.{group_list, category_list}
use Rattle.dirty_cells.proofs.GroupTotals.{of_side, ids, kept, kept_expense, income_from_groups, spent_from_groups, budgeted_from_groups, leftover_from_groups}
use Rattle.dirty_cells.proofs.Summed.{small_rows}
use Rattle.dirty_cells.proofs.Totals.{overspent_of_totals}

-- ---- sums over all groups are sums over those of a side
by_side : (u : Bool → Bool) (F : Text → ℤ) (gs : List BudgetGroup) → total (λ (g : BudgetGroup). only_if (u g.is_income) (F g.id)) gs ≡ total F (map (λ (g : BudgetGroup). g.id) (filter (λ k. u k.is_income) gs))
by_side u F [] = refl
by_side u F (g ∷ gs) = by (u g.is_income) (by_side u F gs)
  where
    by : (t : Bool) → total (λ (g : BudgetGroup). only_if (u g.is_income) (F g.id)) gs ≡ total F (map (λ (g : BudgetGroup). g.id) (filter (λ k. u k.is_income) gs))
        → only_if t (F g.id) +ℤ total (λ (g : BudgetGroup). only_if (u g.is_income) (F g.id)) gs ≡ total F (map (λ (g : BudgetGroup). g.id) (cond t (g ∷ filter (λ k. u k.is_income) gs) (filter (λ k. u k.is_income) gs)))
    by true h = ap (λ z. F g.id +ℤ z) h
    by false h = omega (arith, ints, h)

module _ (rows : Rows) (u : Bool → Bool) (w : Text → ℕ) (F : Text → ℤ) where
  -- what is added up is no more than what there is of the categories
  group_weight : (gs : List (Place × Bool)) → ((id : Text) → is_among text_cmp (map (λ (g : BudgetGroup). g.id) (of_side rows u gs)) id ≡ true → unsigned_abs (F id) ≤ weight w (ids_of_group id (category_list rows)))
      → weight (λ (g : BudgetGroup). unsigned_abs (only_if (u g.is_income) (F g.id))) (with_categories (category_list rows) gs) ≤ weight w (categories_of (with_categories (category_list rows) gs))
  group_weight [] h = omega arith
  group_weight (e ∷ gs) h = by (u e.1) h (group_weight gs)
    where
      by : (t : Bool) → ((id : Text) → is_among text_cmp (map (λ (g : BudgetGroup). g.id) (cond t (record { id = e.0.id; is_income = e.1; categories = ids_of_group e.0.id (category_list rows) } ∷ of_side rows u gs) (of_side rows u gs))) id ≡ true → unsigned_abs (F id) ≤ weight w (ids_of_group id (category_list rows)))
          → (((id : Text) → is_among text_cmp (map (λ (g : BudgetGroup). g.id) (of_side rows u gs)) id ≡ true → unsigned_abs (F id) ≤ weight w (ids_of_group id (category_list rows)))
          → weight (λ (g : BudgetGroup). unsigned_abs (only_if (u g.is_income) (F g.id))) (with_categories (category_list rows) gs) ≤ weight w (categories_of (with_categories (category_list rows) gs)))
          → unsigned_abs (only_if t (F e.0.id)) + weight (λ (g : BudgetGroup). unsigned_abs (only_if (u g.is_income) (F g.id))) (with_categories (category_list rows) gs) ≤ weight w (ids_of_group e.0.id (category_list rows) ++ categories_of (with_categories (category_list rows) gs))
      by true k rest = omega (arith, weight-append w (ids_of_group e.0.id (category_list rows)) (categories_of (with_categories (category_list rows) gs)), k e.0.id (or_left (eq_by_cmp text_cmp e.0.id e.0.id) (is_among text_cmp (map (λ (g : BudgetGroup). g.id) (of_side rows u gs)) e.0.id) (itself e.0.id)), rest (λ id q. k id (or_right (eq_by_cmp text_cmp id e.0.id) (is_among text_cmp (map (λ (g : BudgetGroup). g.id) (of_side rows u gs)) id) q)))
      by false k rest = omega (arith, weight-append w (ids_of_group e.0.id (category_list rows)) (categories_of (with_categories (category_list rows) gs)), rest k)

-- ---- what the groups of a month have together
module _ (rows : Rows) (cells : Cells) (n : ℕ) (right : AreRightBut cells (budget_of rows) n (is_pending [] [] true)) where
  abbrev b : Budget
  b = budget_of rows

  sums_right : (id : Text) → get cells (cell_at n GroupSum id) ≡ value_of b n GroupSum id
  sums_right id = right.each GroupSum id refl

  budgets_right : (id : Text) → get cells (cell_at n GroupBudget id) ≡ value_of b n GroupBudget id
  budgets_right id = right.each GroupBudget id refl

  leftovers_right : (id : Text) → get cells (cell_at n GroupLeftover id) ≡ value_of b n GroupLeftover id
  leftovers_right id = right.each GroupLeftover id refl

  pub income_kept : total (kept_of_group cells n GroupSum true) (groups_of rows) ≡ total_income b n
  income_kept = by_side (λ t. t) (kept_value cells n GroupSum) (groups_of rows) ∙ income_from_groups rows cells n sums_right

  pub spent_kept : total (kept_of_group cells n GroupSum false) (groups_of rows) ≡ total_spent b n
  spent_kept = by_side not (kept_value cells n GroupSum) (groups_of rows) ∙ spent_from_groups rows cells n sums_right

  pub budgets_kept : total (kept_of_group cells n GroupBudget false) (groups_of rows) ≡ all_budgeted b n
  budgets_kept = by_side not (kept_value cells n GroupBudget) (groups_of rows) ∙ budgeted_from_groups rows cells n budgets_right

  pub leftover_kept : total (kept_of_group cells n GroupLeftover false) (groups_of rows) ≡ total_leftover b n
  leftover_kept = by_side not (kept_value cells n GroupLeftover) (groups_of rows) ∙ leftover_from_groups rows cells n leftovers_right

  module _ (sizes : HasSizes rows) (below : n < 2760) where
    abbrev w : Text → ℕ
    w c = weight_before b c (suc n)

    small : weight w (categories b) ≤ 2 ^ 118
    small = small_rows rows n below sizes

    sum_within : (u : Bool → Bool) (id : Text) → is_among text_cmp (ids rows u) id ≡ true → unsigned_abs (kept_value cells n GroupSum id) ≤ weight w (ids_of_group id (category_list rows))
    sum_within u id h = omega (arith, ap unsigned_abs (kept rows cells n sums_right u id h), total_within (λ c. b.category_sum c n) w (ids_of_group id (category_list rows)) (λ c. omega arith))

    budget_within : (id : Text) → is_among text_cmp (ids rows not) id ≡ true → unsigned_abs (kept_value cells n GroupBudget id) ≤ weight w (ids_of_group id (category_list rows))
    budget_within id h = omega (arith, ap unsigned_abs (kept_expense rows cells n (λ c. b.budgeted c n) GroupBudget budgets_right id h), total_within (λ c. b.budgeted c n) w (ids_of_group id (category_list rows)) (λ c. omega arith))

    leftover_within : (id : Text) → is_among text_cmp (ids rows not) id ≡ true → unsigned_abs (kept_value cells n GroupLeftover id) ≤ weight w (ids_of_group id (category_list rows))
    leftover_within id h = omega (arith, ap unsigned_abs (kept_expense rows cells n (λ c. leftover b c n) GroupLeftover leftovers_right id h), total_within (λ c. leftover b c n) w (ids_of_group id (category_list rows)) (λ c. omega (arith, left_small b c (suc n))))

    pub income_weight : weight (λ g. unsigned_abs (kept_of_group cells n GroupSum true g)) (groups_of rows) ≤ 2 ^ 120
    income_weight = omega (arith, group_weight rows (λ t. t) w (kept_value cells n GroupSum) (group_list rows) (sum_within (λ t. t)), small)

    pub spent_weight : weight (λ g. unsigned_abs (kept_of_group cells n GroupSum false g)) (groups_of rows) ≤ 2 ^ 120
    spent_weight = omega (arith, group_weight rows not w (kept_value cells n GroupSum) (group_list rows) (sum_within not), small)

    pub budgets_weight : weight (λ g. unsigned_abs (kept_of_group cells n GroupBudget false g)) (groups_of rows) ≤ 2 ^ 120
    budgets_weight = omega (arith, group_weight rows not w (kept_value cells n GroupBudget) (group_list rows) budget_within, small)

    pub leftover_weight : weight (λ g. unsigned_abs (kept_of_group cells n GroupLeftover false g)) (groups_of rows) ≤ 2 ^ 120
    leftover_weight = omega (arith, group_weight rows not w (kept_value cells n GroupLeftover) (group_list rows) leftover_within, small)

-- ---- cells of a whole month are small
number_back : (n : ℕ) → month_number (month_at n) ≡ n
number_back n = omega arith

valid_month : (k : ℕ) → k < 2760 → is_month (month_at k) ≡ true
valid_month k h =
    let year : month_at k / 100 ≡ 1970 + k / 12 = omega arith in
    let month : month_at k % 100 ≡ k % 12 + 1 = omega arith in
    grind (arith, nat_tests)

pub cell_small : (rows : Rows) → HasSizes rows → (n : ℕ) → n < 2760 → (kind : CellKind) (z : ℤ) → value_of (budget_of rows) n kind [] ≡ Some z → unsigned_abs z ≤ 2 ^ 121
cell_small rows sizes n below kind z h = cells_are_small_lem rows sizes (cell_at n kind []) (valid_month n below) z (ap (λ m. value_of (budget_of rows) m kind []) (number_back n) ∙ h)

-- ---- what the month before left
module _ (b : Budget) (cells : Cells) (m : ℕ) (right : AreRightBut cells b m none_pending) where
  pub to_budget_kept : kept_value cells m ToBudget [] ≡ to_budget b m
  to_budget_kept = ap (λ o. unwrap_or o (pos 0)) (right.each ToBudget [] refl)

  pub held_kept : kept_value cells m Buffered [] ≡ b.buffered m
  held_kept = ap (λ o. unwrap_or o (pos 0)) (right.each Buffered [] refl)

  pub left_kept : kept_value cells m TotalLeftover [] ≡ total_leftover b m
  left_kept = ap (λ o. unwrap_or o (pos 0)) (right.each TotalLeftover [] refl)

back : (n : ℕ) → 0 < n → suc (n - 1) ≡ n
back n h = omega (arith, h)

pub from_last_is : (b : Budget) (n : ℕ) → 0 < n → (x y z : ℤ) → z ≡ x +ℤ y → x ≡ to_budget b (n - 1) → y ≡ b.buffered (n - 1) → z ≡ from_last_month b n
from_last_is b n h x y z e p q = e ∙ ap (λ x. x +ℤ y) p ∙ ap (λ y. to_budget b (n - 1) +ℤ y) q ∙ ap (from_last_month b) (back n h)

pub left_is : (b : Budget) (n : ℕ) → 0 < n → total_leftover b (n - 1) ≡ left_before b n
left_is b n h = ap (left_before b) (back n h)

-- ---- all amounts of the month
pub whole_is : (b : Budget) (n : ℕ) (t : Totals) (p : Begin) (held : ℤ) → AreTotals b n t → IsBegin b n p → held ≡ b.buffered n → IsWhole b n (whole_by t p held)
whole_is b n t p held totals begin h =
    let taken : overspent_by t p ≡ last_month_overspent b n = omega (arith, ints, overspent_of_totals b n, totals.spent, totals.budgets, totals.leftover, begin.left) in
    record {
      income = totals.income;
      from_last = begin.from_last;
      available = omega (arith, ints, totals.income, begin.from_last);
      overspent = taken;
      budgeted = omega (arith, ints, totals.budgets);
      buffered = h;
      to_budget = omega (arith, ints, totals.income, begin.from_last, totals.budgets, h, taken);
      spent = totals.spent;
      leftover = totals.leftover;
    }
