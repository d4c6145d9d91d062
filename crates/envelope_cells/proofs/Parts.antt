-- What a sheet is made of, from what each category has.
use Rattle.std.proofs.Common.{◌≡◌, ℕ, ◌+◌, ◌-◌, ◌^◌, ◌≤◌, Bool, true, false, not, cond, List, [], ◌∷◌, ◌++◌, map, zero, suc, unsigned_abs, refl, ap, ◌∙◌, arith, add-one}
use lib.IntN.{ℤ, pos, ◌+ℤ◌, ◌-ℤ◌, neg_ℤ}
use Rattle.std.proofs.lemmas.Int.{ints, clamps}
use Rattle.std.specs.List.{filter}
use Rattle.finite_sums.specs.Sums.{total, only_if, weight}
use Rattle.finite_sums.specs.Maps.{Text}
use Rattle.finite_sums.proofs.Totals.{total-append, total-plus}
use Rattle.envelope_cells.specs.Budget.{Budget, categories_of, categories, income, expense}
use Rattle.envelope_cells.specs.Cells.{rolled, taken, carried_before, leftover_before, leftover, buffered_before, to_budget_before, to_budget, from_last_month, available_funds, total_income, last_month_overspent, total_budgeted, total_spent, total_leftover, money_before}
use Rattle.envelope_cells.specs.SheetOf.{cell, group_cells, category_cells, categories_cells, groups_cells, month_cells, sheet_of}
use Rattle.envelope_cells.specs.Parts.{sums_before, weight_before, IsSmall, part_of, group_of, picked, part_weight, group_total, side_total, groups_weight}
use Rattle.envelope_cells.specs.Whole.{whole_of, from_last, parts_cells, own_cells, all_cells, cells_from, whole_value, HasAllMoney}
use Rattle.envelope_cells.specs.declared.groups.BudgetGroup.{BudgetGroup}
use Rattle.envelope_cells.specs.declared.part.GroupParts.{GroupParts}
use Rattle.envelope_cells.specs.declared.part.Pick.{Pick}
use Rattle.envelope_cells.specs.declared.part.Pick.TheVariants.{Sum, Budget as OfBudget, Leftover, Before, Taken, Moved}
use Rattle.envelope_cells.specs.declared.whole.Whole.{Whole}
use Rattle.envelope_cells.specs.declared.name.Cell.{Cell}
use Rattle.envelope_cells.specs.declared.name.CellKind.TheVariants.{GroupSum, GroupBudget, GroupLeftover, ToBudget, Buffered, TotalLeftover}
use Rattle.envelope_cells.specs.declared.name.CellKind.{CellKind}
use Rattle.std.specs.Prelude.{unwrap_or}
use Rattle.std.proofs.Common.{Some}
use Rattle.book_rows.specs.declared.rows.Rows.{Rows}
use Rattle.envelope_cells.specs.BudgetOf.{budget_of}
use Rattle.envelope_cells.specs.Ids.{month_number}
use Rattle.envelope_cells.specs.CellOf.{value_of}
use Rattle.envelope_cells.proofs.Sheets.{sheets_tell_cells_lem}
use Rattle.envelope_cells.proofs.Money.{total_zero, split, all_left_before, money_before_is, money_is_kept_lem}
use Rattle.envelope_cells.proofs.Lists.{total-map, weight-map, weight-append, weight_le}

-- ---- sizes
rolled_small : (b : Bool) (z : ℤ) → unsigned_abs (rolled b z) ≤ unsigned_abs z
rolled_small true z = omega arith
rolled_small false z = omega (arith, ints, clamps)

taken_small : (b : Bool) (z : ℤ) → unsigned_abs (taken b z) ≤ unsigned_abs z
taken_small true z = omega (arith, ints)
taken_small false z = omega (arith, ints, clamps)

pub left_small : (b : Budget) (c : Text) (n : ℕ) → unsigned_abs (leftover_before b c n) ≤ weight_before b c n
left_small b c zero = omega (arith, ints)
left_small b c (suc m) = omega (arith, ints, left_small b c m, rolled_small (carried_before b c m) (leftover_before b c m))

pub sums_small : (b : Budget) (c : Text) (n : ℕ) → unsigned_abs (sums_before b c n) ≤ weight_before b c n
sums_small b c zero = omega (arith, ints)
sums_small b c (suc m) = omega (arith, ints, sums_small b c m)

weight_more : (b : Budget) (c : Text) (k d : ℕ) → weight_before b c k ≤ weight_before b c (k + d)
weight_more b c k zero =
    let e : k + 0 ≡ k = omega arith in
    omega (arith, ap (weight_before b c) e)
weight_more b c k (suc d) =
    let e : k + suc d ≡ suc (k + d) = omega arith in
    omega (arith, weight_more b c k d, ap (weight_before b c) e)

pub weight_rises : (b : Budget) (c : Text) (k n : ℕ) → k ≤ n → weight_before b c k ≤ weight_before b c n
weight_rises b c k n h =
    let e : k + (n - k) ≡ n = omega arith in
    omega (arith, weight_more b c k (n - k), ap (weight_before b c) e)

pub picked_small : (b : Budget) (m : ℕ) (k : Pick) (c : Text) → part_weight k (part_of b m c) ≤ weight_before b c (suc m)
picked_small b m Sum c = omega arith
picked_small b m OfBudget c = omega arith
picked_small b m Leftover c = left_small b c (suc m)
picked_small b m Before c = omega (arith, left_small b c m)
picked_small b m Taken c = omega (arith, left_small b c m, taken_small (carried_before b c m) (leftover_before b c m))
picked_small b m Moved c = omega (arith, sums_small b c m)

groups_weight_is : (b : Budget) (m : ℕ) (k : Pick) (gs : List BudgetGroup) → groups_weight k (map (group_of b m) gs) ≡ weight (λ c. part_weight k (part_of b m c)) (categories_of gs)
groups_weight_is b m k [] = refl
groups_weight_is b m k (g ∷ gs) =
    omega (arith, weight-map (part_weight k) (part_of b m) g.categories, groups_weight_is b m k gs, weight-append (λ c. part_weight k (part_of b m c)) g.categories (categories_of gs))

pub groups_small : (b : Budget) (m : ℕ) → IsSmall b (m + 1) → (k : Pick) → groups_weight k (map (group_of b m) b.groups) ≤ 2 ^ 120
groups_small b m h k =
    let all : weight (λ c. weight_before b c (suc m)) (categories b) ≤ 2 ^ 118 = rw add-one at h.all in
    omega (arith, groups_weight_is b m k b.groups, weight_le (λ c. part_weight k (part_of b m c)) (λ c. weight_before b c (suc m)) (categories b) (picked_small b m k), all)

-- ---- sums of groups
module _ (b : Budget) (m : ℕ) (k : Pick) where
  side_income : (gs : List BudgetGroup) → side_total k true (map (group_of b m) gs) ≡ total (λ c. picked k (part_of b m c)) (categories_of (filter (λ g. g.is_income) gs))
  side_income [] = refl
  side_income (g ∷ gs) = by g.is_income (side_income gs)
    where
      by : (t : Bool) → side_total k true (map (group_of b m) gs) ≡ total (λ c. picked k (part_of b m c)) (categories_of (filter (λ g. g.is_income) gs))
          → only_if t (group_total k (group_of b m g)) +ℤ side_total k true (map (group_of b m) gs) ≡ total (λ c. picked k (part_of b m c)) (categories_of (cond t (g ∷ filter (λ g. g.is_income) gs) (filter (λ g. g.is_income) gs)))
      by true h = omega (arith, ints, h, total-map (picked k) (part_of b m) g.categories, total-append (λ c. picked k (part_of b m c)) g.categories (categories_of (filter (λ g. g.is_income) gs)))
      by false h = omega (arith, ints, h)

  side_expense : (gs : List BudgetGroup) → side_total k false (map (group_of b m) gs) ≡ total (λ c. picked k (part_of b m c)) (categories_of (filter (λ g. not g.is_income) gs))
  side_expense [] = refl
  side_expense (g ∷ gs) = by g.is_income (side_expense gs)
    where
      by : (t : Bool) → side_total k false (map (group_of b m) gs) ≡ total (λ c. picked k (part_of b m c)) (categories_of (filter (λ g. not g.is_income) gs))
          → only_if (not t) (group_total k (group_of b m g)) +ℤ side_total k false (map (group_of b m) gs) ≡ total (λ c. picked k (part_of b m c)) (categories_of (cond (not t) (g ∷ filter (λ g. not g.is_income) gs) (filter (λ g. not g.is_income) gs)))
      by true h = omega (arith, ints, h)
      by false h = omega (arith, ints, h, total-map (picked k) (part_of b m) g.categories, total-append (λ c. picked k (part_of b m c)) g.categories (categories_of (filter (λ g. not g.is_income) gs)))

-- ---- the whole month
pub moved_is : (b : Budget) (n : ℕ) → total (λ c. sums_before b c n) (categories b) ≡ money_before b n
moved_is b zero = total_zero (categories b)
moved_is b (suc m) = omega (arith, ints, moved_is b m, total-plus (λ c. sums_before b c m) (λ c. b.category_sum c m) (categories b))

abbrev pub whole : Budget → ℕ → Whole
whole b m = record {
  income = total_income b m;
  from_last = from_last_month b m;
  available = available_funds b m;
  overspent = last_month_overspent b m;
  budgeted = total_budgeted b m;
  buffered = b.buffered m;
  to_budget = to_budget b m;
  spent = total_spent b m;
  leftover = total_leftover b m;
}

module _ (b : Budget) (m : ℕ) where
  abbrev gs : List GroupParts
  gs = map (group_of b m) b.groups

  from_last_is : from_last gs ≡ from_last_month b m
  from_last_is =
      let one : side_total Moved true gs ≡ total (λ c. sums_before b c m) (income b) = side_income b m Moved b.groups in
      let two : side_total Moved false gs ≡ total (λ c. sums_before b c m) (expense b) = side_expense b m Moved b.groups in
      let three : side_total Before false gs ≡ all_left_before b m = side_expense b m Before b.groups in
      let four : total (λ c. sums_before b c m) (categories b) ≡ total (λ c. sums_before b c m) (income b) +ℤ total (λ c. sums_before b c m) (expense b) = split (λ c. sums_before b c m) b.groups in
      let five : (to_budget_before b m +ℤ buffered_before b m) +ℤ all_left_before b m ≡ money_before b m = money_before_is b m in
      omega (arith, ints, one, two, three, four, five, moved_is b m)

  pub whole_is : (held : ℤ) → held ≡ b.buffered m → whole_of gs held ≡ whole b m
  whole_is held e =
      let income_is : side_total Sum true gs ≡ total_income b m = side_income b m Sum b.groups in
      let overspent_is : side_total Taken false gs ≡ last_month_overspent b m = side_expense b m Taken b.groups in
      let budgeted_is : neg_ℤ (side_total OfBudget false gs) ≡ total_budgeted b m = ap neg_ℤ (side_expense b m OfBudget b.groups) in
      let spent_is : side_total Sum false gs ≡ total_spent b m = side_expense b m Sum b.groups in
      let leftover_is : side_total Leftover false gs ≡ total_leftover b m = side_expense b m Leftover b.groups in
      λ i. record {
        income = income_is i;
        from_last = from_last_is i;
        available = income_is i +ℤ from_last_is i;
        overspent = overspent_is i;
        budgeted = budgeted_is i;
        buffered = e i;
        to_budget = (((income_is i +ℤ from_last_is i) +ℤ overspent_is i) +ℤ budgeted_is i) -ℤ e i;
        spent = spent_is i;
        leftover = leftover_is i;
      }

-- ---- the cells
module _ (b : Budget) (month m : ℕ) where
  parts_cells_are : (t : Bool) (cs : List Text) → parts_cells month t (map (part_of b m) cs) ≡ categories_cells b month m t cs
  parts_cells_are t [] = refl
  parts_cells_are t (c ∷ cs) = ap (λ ys. category_cells b month m t c ++ ys) (parts_cells_are t cs)

  own_cells_are : (g : BudgetGroup) → own_cells month (group_of b m g) ≡ group_cells b month m g
  own_cells_are g =
      let sums : group_total Sum (group_of b m g) ≡ total (λ c. b.category_sum c m) g.categories = total-map (picked Sum) (part_of b m) g.categories in
      let given : group_total OfBudget (group_of b m g) ≡ total (λ c. b.budgeted c m) g.categories = total-map (picked OfBudget) (part_of b m) g.categories in
      let left : group_total Leftover (group_of b m g) ≡ total (λ c. leftover b c m) g.categories = total-map (picked Leftover) (part_of b m) g.categories in
      λ i. cell month GroupSum g.id (sums i) ∷ (cond g.is_income [] (cell month GroupBudget g.id (given i) ∷ cell month GroupLeftover g.id (left i) ∷ []))

  pub groups_cells_are : (gs : List BudgetGroup) → all_cells month (map (group_of b m) gs) ≡ groups_cells b month m gs
  groups_cells_are [] = refl
  groups_cells_are (g ∷ gs) = λ i. (own_cells_are g i ++ parts_cells_are g.is_income g.categories i) ++ groups_cells_are gs i

  -- all cells, one behind the other
  pub sheet_is : (w : Whole) → w ≡ whole b m → (gs : List GroupParts) → gs ≡ map (group_of b m) b.groups → cells_from month w gs ≡ month_cells b month m ++ groups_cells b month m b.groups
  sheet_is w e gs f = ap (λ w. cells_from month w gs) e ∙ ap (λ cs. month_cells b month m ++ cs) (ap (all_cells month) f ∙ groups_cells_are b.groups)

  -- from what the code has of them
  pub made : (gs : List GroupParts) → gs ≡ map (group_of b m) b.groups → (held : ℤ) → held ≡ b.buffered m → cells_from month (whole_of gs held) gs ≡ month_cells b month m ++ groups_cells b month m b.groups
  made gs f held e = sheet_is (whole_of gs held) (ap (λ gs. whole_of gs held) f ∙ whole_is b m held e) gs f

-- the money law, of the cells of the sheet
whole_named : (b : Budget) (month : ℕ) (cells : List Cell) → cells ≡ sheet_of b month → (k : CellKind) (z : ℤ) → value_of b (month_number month) k [] ≡ Some z → whole_value cells month k ≡ z
whole_named b month cells e k z v = ap (λ cs. whole_value cs month k) e ∙ ap (λ o. unwrap_or o (pos 0)) (sheets_tell_cells_lem b (record { month = month; kind = k; id = [] }) ∙ v)

pub has_all_money : (r : Rows) (month : ℕ) (cells : List Cell) → cells ≡ sheet_of (budget_of r) month → HasAllMoney cells r month
has_all_money r month cells e =
    let b = budget_of r in
    let m = month_number month in
    let one : whole_value cells month ToBudget ≡ to_budget b m = whole_named b month cells e ToBudget (to_budget b m) refl in
    let two : whole_value cells month Buffered ≡ b.buffered m = whole_named b month cells e Buffered (b.buffered m) refl in
    let three : whole_value cells month TotalLeftover ≡ total_leftover b m = whole_named b month cells e TotalLeftover (total_leftover b m) refl in
    omega (arith, ints, one, two, three, money_is_kept_lem b m)
