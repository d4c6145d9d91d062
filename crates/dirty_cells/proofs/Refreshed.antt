-- The four cells of a category are settled.
use Rattle.std.proofs.Common.{◌≡◌, ℕ, suc, ◌-◌, ◌<◌, ◌≤◌, ◌^◌, Bool, true, false, not, cond, List, [], ◌∷◌, Option, Some, None, refl, ap, sym, ◌∙◌, arith, true≢false, unsigned_abs}
use Rattle.std.specs.Prelude.{◌&&◌, ◌||◌, unwrap_or}
use Rattle.std.specs.Ordering.{int_eq}
use lib.IntN.{ℤ, pos}
use Rattle.std.specs.FinMap.{get}
use Rattle.std.specs.Ordering.{eq_by_cmp}
use Rattle.std.specs.Cmp.{eq_by_cmp_equiv}
use Rattle.finite_sums.specs.Sums.{weight}
use Rattle.finite_sums.specs.Maps.{Text, text_cmp, is_among, some_and}
use Rattle.book_rows.specs.declared.rows.Rows.{Rows}
use Rattle.book_rows.specs.Book.{HasSizes}
use Rattle.book_rows.specs.Live.{is_live_category, is_expense_category, is_live_category_row, has_income_group}
use Rattle.book_rows.specs.declared.rows.CategoryRow.{CategoryRow}
use Rattle.envelope_cells.specs.Names.{Cells, cell_cmp, cells_total}
use Rattle.envelope_cells.specs.Budget.{Budget, categories, expense}
use Rattle.envelope_cells.specs.BudgetOf.{budget_of}
use Rattle.envelope_cells.specs.Cells.{leftover_before, leftover, carried_before}
use Rattle.envelope_cells.specs.CellOf.{value_of, of_category, flag_value}
use Rattle.envelope_cells.specs.Ids.{month_at}
use Rattle.envelope_cells.specs.Parts.{weight_before}
use Rattle.envelope_cells.specs.declared.name.CellName.{CellName}
use Rattle.envelope_cells.specs.declared.name.CellKind.{CellKind}
use Rattle.envelope_cells.specs.declared.name.CellKind.TheVariants.{TotalIncome, FromLastMonth, AvailableFunds, LastMonthOverspent, TotalBudgeted, Buffered, ToBudget, TotalSpent, TotalLeftover, GroupSum, GroupBudget, GroupLeftover, Sum, Budget as OfBudget, Carryover, Leftover}
use Rattle.envelope_cells.proofs.Among.{same_texts, or_either}
use Rattle.envelope_cells.proofs.Bounds.{rows_are_small}
use Rattle.envelope_cells.proofs.Parts.{left_small}
use Rattle.dirty_cells.specs.Grid.{is_pending}
use Rattle.dirty_cells.specs.Right.{cell_at, Pending, AreRightBut, but, Settled, none_pending}
use Rattle.dirty_cells.proofs.Settling.{settled, weaker, elsewhere}
use Rattle.dirty_cells.proofs.Listed.{live_ones_are_listed_lem}

none1 : (p a b c d : Bool) → p ≡ false → ((((p && a) && b) && c) && d) ≡ false
none1 p a b c d h = ap (λ t. (((t && a) && b) && c) && d) h

and_no : (a : Bool) → (a && false) ≡ false
and_no true = refl
and_no false = refl

at1 : (p a b c d : Bool) → a ≡ false → ((((p && a) && b) && c) && d) ≡ false
at1 p a b c d h = ap (λ t. (((p && t) && b) && c) && d) h ∙ ap (λ t. ((t && b) && c) && d) (and_no p)

at2 : (p a b c d : Bool) → b ≡ false → ((((p && a) && b) && c) && d) ≡ false
at2 p a b c d h = ap (λ t. (((p && a) && t) && c) && d) h ∙ ap (λ t. (t && c) && d) (and_no (p && a))

at3 : (p a b c d : Bool) → c ≡ false → ((((p && a) && b) && c) && d) ≡ false
at3 p a b c d h = ap (λ t. (((p && a) && b) && t) && d) h ∙ ap (λ t. t && d) (and_no ((p && a) && b))

at4 : (p a b c d : Bool) → d ≡ false → ((((p && a) && b) && c) && d) ≡ false
at4 p a b c d h = ap (λ t. (((p && a) && b) && c) && t) h ∙ and_no (((p && a) && b) && c)

hit : (n : ℕ) (k : CellKind) (q id : Text) → eq_by_cmp text_cmp q id ≡ true → not (eq_by_cmp cell_cmp (cell_at n k q) (cell_at n k id)) ≡ false
hit n k q id e = ap (λ i. not (eq_by_cmp cell_cmp (cell_at n k i) (cell_at n k id))) (same_texts q id e) ∙ ap not ((eq_by_cmp_equiv cells_total).refl (cell_at n k id))

miss : (q id : Text) (rest : List Text) → is_among text_cmp rest q ≡ false → eq_by_cmp text_cmp q id ≡ false → is_among text_cmp (id ∷ rest) q ≡ false
miss q id rest h e = ap (λ t. t || is_among text_cmp rest q) e ∙ h

module _ (n : ℕ) (id : Text) (rest gs : List Text) where
  abbrev left_of : Pending
  left_of = but n (but n (but n (but n (is_pending (id ∷ rest) gs true) Sum id) OfBudget id) Carryover id) Leftover id

  abbrev other : CellKind → CellKind → Text → Bool
  other k kind q = not (eq_by_cmp cell_cmp (cell_at n kind q) (cell_at n k id))

  abbrev p0 : CellKind → Text → Bool
  p0 = is_pending (id ∷ rest) gs true

  four_less : (kind : CellKind) (q : Text) → is_pending rest gs true kind q ≡ false → left_of kind q ≡ false
  four_less TotalIncome q h = none1 (p0 TotalIncome q) (other Sum TotalIncome q) (other OfBudget TotalIncome q) (other Carryover TotalIncome q) (other Leftover TotalIncome q) h
  four_less FromLastMonth q h = none1 (p0 FromLastMonth q) (other Sum FromLastMonth q) (other OfBudget FromLastMonth q) (other Carryover FromLastMonth q) (other Leftover FromLastMonth q) h
  four_less AvailableFunds q h = none1 (p0 AvailableFunds q) (other Sum AvailableFunds q) (other OfBudget AvailableFunds q) (other Carryover AvailableFunds q) (other Leftover AvailableFunds q) h
  four_less LastMonthOverspent q h = none1 (p0 LastMonthOverspent q) (other Sum LastMonthOverspent q) (other OfBudget LastMonthOverspent q) (other Carryover LastMonthOverspent q) (other Leftover LastMonthOverspent q) h
  four_less TotalBudgeted q h = none1 (p0 TotalBudgeted q) (other Sum TotalBudgeted q) (other OfBudget TotalBudgeted q) (other Carryover TotalBudgeted q) (other Leftover TotalBudgeted q) h
  four_less Buffered q h = none1 (p0 Buffered q) (other Sum Buffered q) (other OfBudget Buffered q) (other Carryover Buffered q) (other Leftover Buffered q) h
  four_less ToBudget q h = none1 (p0 ToBudget q) (other Sum ToBudget q) (other OfBudget ToBudget q) (other Carryover ToBudget q) (other Leftover ToBudget q) h
  four_less TotalSpent q h = none1 (p0 TotalSpent q) (other Sum TotalSpent q) (other OfBudget TotalSpent q) (other Carryover TotalSpent q) (other Leftover TotalSpent q) h
  four_less TotalLeftover q h = none1 (p0 TotalLeftover q) (other Sum TotalLeftover q) (other OfBudget TotalLeftover q) (other Carryover TotalLeftover q) (other Leftover TotalLeftover q) h
  four_less GroupSum q h = none1 (p0 GroupSum q) (other Sum GroupSum q) (other OfBudget GroupSum q) (other Carryover GroupSum q) (other Leftover GroupSum q) h
  four_less GroupBudget q h = none1 (p0 GroupBudget q) (other Sum GroupBudget q) (other OfBudget GroupBudget q) (other Carryover GroupBudget q) (other Leftover GroupBudget q) h
  four_less GroupLeftover q h = none1 (p0 GroupLeftover q) (other Sum GroupLeftover q) (other OfBudget GroupLeftover q) (other Carryover GroupLeftover q) (other Leftover GroupLeftover q) h
  four_less Sum q h = by (eq_by_cmp text_cmp q id) refl
    where
      by : (t : Bool) → eq_by_cmp text_cmp q id ≡ t → left_of Sum q ≡ false
      by true e = at1 (p0 Sum q) (other Sum Sum q) (other OfBudget Sum q) (other Carryover Sum q) (other Leftover Sum q) (hit n Sum q id e)
      by false e = none1 (p0 Sum q) (other Sum Sum q) (other OfBudget Sum q) (other Carryover Sum q) (other Leftover Sum q) (miss q id rest h e)
  four_less OfBudget q h = by (eq_by_cmp text_cmp q id) refl
    where
      by : (t : Bool) → eq_by_cmp text_cmp q id ≡ t → left_of OfBudget q ≡ false
      by true e = at2 (p0 OfBudget q) (other Sum OfBudget q) (other OfBudget OfBudget q) (other Carryover OfBudget q) (other Leftover OfBudget q) (hit n OfBudget q id e)
      by false e = none1 (p0 OfBudget q) (other Sum OfBudget q) (other OfBudget OfBudget q) (other Carryover OfBudget q) (other Leftover OfBudget q) (miss q id rest h e)
  four_less Carryover q h = by (eq_by_cmp text_cmp q id) refl
    where
      by : (t : Bool) → eq_by_cmp text_cmp q id ≡ t → left_of Carryover q ≡ false
      by true e = at3 (p0 Carryover q) (other Sum Carryover q) (other OfBudget Carryover q) (other Carryover Carryover q) (other Leftover Carryover q) (hit n Carryover q id e)
      by false e = none1 (p0 Carryover q) (other Sum Carryover q) (other OfBudget Carryover q) (other Carryover Carryover q) (other Leftover Carryover q) (miss q id rest h e)
  four_less Leftover q h = by (eq_by_cmp text_cmp q id) refl
    where
      by : (t : Bool) → eq_by_cmp text_cmp q id ≡ t → left_of Leftover q ≡ false
      by true e = at4 (p0 Leftover q) (other Sum Leftover q) (other OfBudget Leftover q) (other Carryover Leftover q) (other Leftover Leftover q) (hit n Leftover q id e)
      by false e = none1 (p0 Leftover q) (other Sum Leftover q) (other OfBudget Leftover q) (other Carryover Leftover q) (other Leftover Leftover q) (miss q id rest h e)

-- the four cells of a category, one after the other
module _ (b : Budget) (n : ℕ) (id : Text) (c0 c1 c2 c3 c4 : Cells) (v1 v2 v3 v4 : Option ℤ)
    (s1 : Settled c0 c1 (cell_at n Sum id) v1) (s2 : Settled c1 c2 (cell_at n OfBudget id) v2) (s3 : Settled c2 c3 (cell_at n Carryover id) v3) (s4 : Settled c3 c4 (cell_at n Leftover id) v4) where
  pub category_right : v1 ≡ value_of b n Sum id → v2 ≡ value_of b n OfBudget id → v3 ≡ value_of b n Carryover id → v4 ≡ value_of b n Leftover id
      → (rest gs : List Text) → AreRightBut c0 b n (is_pending (id ∷ rest) gs true) → AreRightBut c4 b n (is_pending rest gs true)
  category_right e1 e2 e3 e4 rest gs right =
      let p0 : Pending = is_pending (id ∷ rest) gs true in
      let p1 : Pending = but n p0 Sum id in
      let p2 : Pending = but n p1 OfBudget id in
      let p3 : Pending = but n p2 Carryover id in
      weaker c4 b n (left_of n id rest gs) (is_pending rest gs true) (four_less n id rest gs)
      (settled c3 c4 b n p3 Leftover id v4 s4 e4 (settled c2 c3 b n p2 Carryover id v3 s3 e3 (settled c1 c2 b n p1 OfBudget id v2 s2 e2 (settled c0 c1 b n p0 Sum id v1 s1 e1 right))))

  pub category_elsewhere : (q : CellName) → (q.month ≡ month_at n → ⊥) → get c4 q ≡ get c0 q
  category_elsewhere q apart =
      elsewhere c3 c4 (cell_at n Leftover id) v4 s4 q apart ∙ elsewhere c2 c3 (cell_at n Carryover id) v3 s3 q apart
      ∙ elsewhere c1 c2 (cell_at n OfBudget id) v2 s2 q apart ∙ elsewhere c0 c1 (cell_at n Sum id) v1 s1 q apart

-- ---- what a category's cells tell
pub listed_value : (r : Rows) (id : Text) (t : Bool) (z : ℤ) → t ≡ is_live_category r id → of_category (categories (budget_of r)) id z ≡ cond t (Some z) None
listed_value r id t z h = ap (λ u. cond u (Some z) None) ((live_ones_are_listed_lem r).category id ∙ sym h)

pub expense_value : (r : Rows) (id : Text) (t : Bool) (z : ℤ) → t ≡ is_expense_category r id → of_category (expense (budget_of r)) id z ≡ cond t (Some z) None
expense_value r id t z h = ap (λ u. cond u (Some z) None) ((live_ones_are_listed_lem r).expense id ∙ sym h)

-- ---- bounds
weight_among : (w : Text → ℕ) (xs : List Text) (q : Text) → is_among text_cmp xs q ≡ true → w q ≤ weight w xs
weight_among w [] q h = absurd (true≢false (sym h))
weight_among w (x ∷ xs) q h = or_either (eq_by_cmp text_cmp q x) (is_among text_cmp xs q) h
    (λ k. let same : w q ≡ w x = ap w (same_texts q x k) in omega (arith, same))
    (λ k. omega (arith, weight_among w xs q k))

pub left_is_small : (r : Rows) → HasSizes r → (id : Text) (n : ℕ) → n ≤ 2760 → is_among text_cmp (categories (budget_of r)) id ≡ true → unsigned_abs (leftover_before (budget_of r) id n) ≤ 2 ^ 118
left_is_small r sizes id n within h =
    omega (arith, left_small (budget_of r) id n, weight_among (λ c. weight_before (budget_of r) c n) (categories (budget_of r)) id h, (rows_are_small r n within sizes).all)

-- an expense category is live
pub expense_is_live : (r : Rows) (id : Text) → true ≡ is_expense_category r id → true ≡ is_live_category r id
expense_is_live r id h = by (get r.categories id) h
  where
    both : (a b : Bool) → true ≡ (a && b) → true ≡ a
    both true b k = refl
    both false b k = k

    by : (o : Option CategoryRow) → true ≡ some_and (λ c. is_live_category_row r c && not (has_income_group r c)) o → true ≡ some_and (is_live_category_row r) o
    by None k = k
    by (Some c) k = both (is_live_category_row r c) (not (has_income_group r c)) k

module _ (r : Rows) (id : Text) (n : ℕ) where
  abbrev b : Budget
  b = budget_of r

  pub sum_told : (z : ℤ) → z ≡ b.category_sum id n → true ≡ is_live_category r id → Some z ≡ value_of b n Sum id
  sum_told z e h = ap Some e ∙ sym (listed_value r id true (b.category_sum id n) h)

  pub no_sum : false ≡ is_live_category r id → None ≡ value_of b n Sum id
  no_sum h = sym (listed_value r id false (b.category_sum id n) h)

  pub no_budget : false ≡ is_expense_category r id → None ≡ value_of b n OfBudget id
  no_budget h = sym (expense_value r id false (b.budgeted id n) h)

  pub no_carryover : false ≡ is_expense_category r id → None ≡ value_of b n Carryover id
  no_carryover h = sym (expense_value r id false (flag_value (b.carries id n)) h)

  pub no_leftover : false ≡ is_expense_category r id → None ≡ value_of b n Leftover id
  no_leftover h = sym (expense_value r id false (leftover b id n) h)

  pub budget_told : (z : ℤ) → z ≡ b.budgeted id n → true ≡ is_expense_category r id → Some z ≡ value_of b n OfBudget id
  budget_told z e h = ap Some e ∙ sym (expense_value r id true (b.budgeted id n) h)

  pub carryover_told : (z : ℤ) → z ≡ flag_value (b.carries id n) → true ≡ is_expense_category r id → Some z ≡ value_of b n Carryover id
  carryover_told z e h = ap Some e ∙ sym (expense_value r id true (flag_value (b.carries id n)) h)

  pub leftover_told : (z : ℤ) → z ≡ leftover b id n → true ≡ is_expense_category r id → Some z ≡ value_of b n Leftover id
  leftover_told z e h = ap Some e ∙ sym (expense_value r id true (leftover b id n) h)

  pub among_expense : true ≡ is_expense_category r id → is_among text_cmp (expense b) id ≡ true
  among_expense h = (live_ones_are_listed_lem r).expense id ∙ sym h

  pub among_live : true ≡ is_expense_category r id → is_among text_cmp (categories b) id ≡ true
  among_live h = (live_ones_are_listed_lem r).category id ∙ sym (expense_is_live r id h)

-- ---- what the cells of the month before tell of an expense category
one_is : (t : Bool) → int_eq (flag_value t) (pos 1) ≡ t
one_is true = refl
one_is false = refl

back : (n : ℕ) → 0 < n → suc (n - 1) ≡ n
back n h = omega (arith, h)

module _ (cells : Cells) (b : Budget) (id : Text) (n : ℕ) (some : 0 < n) (right : AreRightBut cells b (n - 1) none_pending) (inside : is_among text_cmp (expense b) id ≡ true) where
  pub kept_left : unwrap_or (get cells (cell_at (n - 1) Leftover id)) (pos 0) ≡ leftover_before b id n
  kept_left =
      ap (λ o. unwrap_or o (pos 0)) (right.each Leftover id refl ∙ ap (λ t. cond t (Some (leftover b id (n - 1))) None) inside)
      ∙ ap (leftover_before b id) (back n some)

  pub kept_flag : int_eq (unwrap_or (get cells (cell_at (n - 1) Carryover id)) (pos 0)) (pos 1) ≡ carried_before b id n
  kept_flag =
      ap (λ o. int_eq (unwrap_or o (pos 0)) (pos 1)) (right.each Carryover id refl ∙ ap (λ t. cond t (Some (flag_value (b.carries id (n - 1)))) None) inside)
      ∙ one_is (b.carries id (n - 1)) ∙ ap (carried_before b id) (back n some)

-- ---- the three cells of a group
none3 : (p a b c : Bool) → p ≡ false → (((p && a) && b) && c) ≡ false
none3 p a b c h = ap (λ t. ((t && a) && b) && c) h

in1 : (p a b c : Bool) → a ≡ false → (((p && a) && b) && c) ≡ false
in1 p a b c h = ap (λ t. ((p && t) && b) && c) h ∙ ap (λ t. (t && b) && c) (and_no p)

in2 : (p a b c : Bool) → b ≡ false → (((p && a) && b) && c) ≡ false
in2 p a b c h = ap (λ t. ((p && a) && t) && c) h ∙ ap (λ t. t && c) (and_no (p && a))

in3 : (p a b c : Bool) → c ≡ false → (((p && a) && b) && c) ≡ false
in3 p a b c h = ap (λ t. ((p && a) && b) && t) h ∙ and_no ((p && a) && b)

module _ (n : ℕ) (id : Text) (cs rest : List Text) where
  abbrev g0 : CellKind → Text → Bool
  g0 = is_pending cs (id ∷ rest) true

  abbrev left_in_groups : Pending
  left_in_groups = but n (but n (but n g0 GroupSum id) GroupBudget id) GroupLeftover id

  abbrev beside : CellKind → CellKind → Text → Bool
  beside k kind q = not (eq_by_cmp cell_cmp (cell_at n kind q) (cell_at n k id))

  three_less : (kind : CellKind) (q : Text) → is_pending cs rest true kind q ≡ false → left_in_groups kind q ≡ false
  three_less TotalIncome q h = none3 (g0 TotalIncome q) (beside GroupSum TotalIncome q) (beside GroupBudget TotalIncome q) (beside GroupLeftover TotalIncome q) h
  three_less FromLastMonth q h = none3 (g0 FromLastMonth q) (beside GroupSum FromLastMonth q) (beside GroupBudget FromLastMonth q) (beside GroupLeftover FromLastMonth q) h
  three_less AvailableFunds q h = none3 (g0 AvailableFunds q) (beside GroupSum AvailableFunds q) (beside GroupBudget AvailableFunds q) (beside GroupLeftover AvailableFunds q) h
  three_less LastMonthOverspent q h = none3 (g0 LastMonthOverspent q) (beside GroupSum LastMonthOverspent q) (beside GroupBudget LastMonthOverspent q) (beside GroupLeftover LastMonthOverspent q) h
  three_less TotalBudgeted q h = none3 (g0 TotalBudgeted q) (beside GroupSum TotalBudgeted q) (beside GroupBudget TotalBudgeted q) (beside GroupLeftover TotalBudgeted q) h
  three_less Buffered q h = none3 (g0 Buffered q) (beside GroupSum Buffered q) (beside GroupBudget Buffered q) (beside GroupLeftover Buffered q) h
  three_less ToBudget q h = none3 (g0 ToBudget q) (beside GroupSum ToBudget q) (beside GroupBudget ToBudget q) (beside GroupLeftover ToBudget q) h
  three_less TotalSpent q h = none3 (g0 TotalSpent q) (beside GroupSum TotalSpent q) (beside GroupBudget TotalSpent q) (beside GroupLeftover TotalSpent q) h
  three_less TotalLeftover q h = none3 (g0 TotalLeftover q) (beside GroupSum TotalLeftover q) (beside GroupBudget TotalLeftover q) (beside GroupLeftover TotalLeftover q) h
  three_less Sum q h = none3 (g0 Sum q) (beside GroupSum Sum q) (beside GroupBudget Sum q) (beside GroupLeftover Sum q) h
  three_less OfBudget q h = none3 (g0 OfBudget q) (beside GroupSum OfBudget q) (beside GroupBudget OfBudget q) (beside GroupLeftover OfBudget q) h
  three_less Carryover q h = none3 (g0 Carryover q) (beside GroupSum Carryover q) (beside GroupBudget Carryover q) (beside GroupLeftover Carryover q) h
  three_less Leftover q h = none3 (g0 Leftover q) (beside GroupSum Leftover q) (beside GroupBudget Leftover q) (beside GroupLeftover Leftover q) h
  three_less GroupSum q h = by (eq_by_cmp text_cmp q id) refl
    where
      by : (t : Bool) → eq_by_cmp text_cmp q id ≡ t → left_in_groups GroupSum q ≡ false
      by true e = in1 (g0 GroupSum q) (beside GroupSum GroupSum q) (beside GroupBudget GroupSum q) (beside GroupLeftover GroupSum q) (hit n GroupSum q id e)
      by false e = none3 (g0 GroupSum q) (beside GroupSum GroupSum q) (beside GroupBudget GroupSum q) (beside GroupLeftover GroupSum q) (miss q id rest h e)
  three_less GroupBudget q h = by (eq_by_cmp text_cmp q id) refl
    where
      by : (t : Bool) → eq_by_cmp text_cmp q id ≡ t → left_in_groups GroupBudget q ≡ false
      by true e = in2 (g0 GroupBudget q) (beside GroupSum GroupBudget q) (beside GroupBudget GroupBudget q) (beside GroupLeftover GroupBudget q) (hit n GroupBudget q id e)
      by false e = none3 (g0 GroupBudget q) (beside GroupSum GroupBudget q) (beside GroupBudget GroupBudget q) (beside GroupLeftover GroupBudget q) (miss q id rest h e)
  three_less GroupLeftover q h = by (eq_by_cmp text_cmp q id) refl
    where
      by : (t : Bool) → eq_by_cmp text_cmp q id ≡ t → left_in_groups GroupLeftover q ≡ false
      by true e = in3 (g0 GroupLeftover q) (beside GroupSum GroupLeftover q) (beside GroupBudget GroupLeftover q) (beside GroupLeftover GroupLeftover q) (hit n GroupLeftover q id e)
      by false e = none3 (g0 GroupLeftover q) (beside GroupSum GroupLeftover q) (beside GroupBudget GroupLeftover q) (beside GroupLeftover GroupLeftover q) (miss q id rest h e)

module _ (b : Budget) (n : ℕ) (id : Text) (c0 c1 c2 c3 : Cells) (v1 v2 v3 : Option ℤ)
    (s1 : Settled c0 c1 (cell_at n GroupSum id) v1) (s2 : Settled c1 c2 (cell_at n GroupBudget id) v2) (s3 : Settled c2 c3 (cell_at n GroupLeftover id) v3) where
  pub group_right : (cs rest : List Text) → v1 ≡ value_of b n GroupSum id → v2 ≡ value_of b n GroupBudget id → v3 ≡ value_of b n GroupLeftover id
      → AreRightBut c0 b n (is_pending cs (id ∷ rest) true) → AreRightBut c3 b n (is_pending cs rest true)
  group_right cs rest e1 e2 e3 right =
      let p0 : Pending = is_pending cs (id ∷ rest) true in
      let p1 : Pending = but n p0 GroupSum id in
      let p2 : Pending = but n p1 GroupBudget id in
      weaker c3 b n (left_in_groups n id cs rest) (is_pending cs rest true) (three_less n id cs rest)
      (settled c2 c3 b n p2 GroupLeftover id v3 s3 e3 (settled c1 c2 b n p1 GroupBudget id v2 s2 e2 (settled c0 c1 b n p0 GroupSum id v1 s1 e1 right)))

module _ (n : ℕ) (id : Text) (c0 c1 c2 c3 : Cells) (v1 v2 v3 : Option ℤ)
    (s1 : Settled c0 c1 (cell_at n GroupSum id) v1) (s2 : Settled c1 c2 (cell_at n GroupBudget id) v2) (s3 : Settled c2 c3 (cell_at n GroupLeftover id) v3) where
  pub group_elsewhere : (q : CellName) → (q.month ≡ month_at n → ⊥) → get c3 q ≡ get c0 q
  group_elsewhere q apart =
      elsewhere c2 c3 (cell_at n GroupLeftover id) v3 s3 q apart ∙ elsewhere c1 c2 (cell_at n GroupBudget id) v2 s2 q apart ∙ elsewhere c0 c1 (cell_at n GroupSum id) v1 s1 q apart
