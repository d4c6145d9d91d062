-- A sheet tells the cells of its month, and no others.
use Rattle.std.proofs.Common.{◌≡◌, ℕ, ◌<◌, Bool, true, false, not, cond, List, [], ◌∷◌, ◌++◌, Option, Some, None, refl, ap, sym, ◌∙◌, arith, ltb, eqb}
use Rattle.std.specs.Prelude.{◌||◌}
use lib.IntN.{ℤ}
use Rattle.std.specs.List.{filter}
use Rattle.std.specs.Ordering.{eq_by_cmp, is_eq, nat_cmp, ordering_then}
use Rattle.std.specs.declared.cmp.Ordering.{Ordering}
use Rattle.std.specs.declared.cmp.Ordering.TheVariants.{Less, Equal, Greater}
use Rattle.std.specs.Cmp.{nat_cmp_total}
use Rattle.std.proofs.lemmas.Cmp.{tied_itself}
use Rattle.std.proofs.lemmas.Bool.Decides.{nat_tests}
use Rattle.finite_sums.specs.Sums.{total}
use Rattle.finite_sums.specs.Maps.{Text, text_cmp, is_among}
use Rattle.envelope_cells.specs.Budget.{Budget, categories_of}
use Rattle.envelope_cells.specs.declared.groups.BudgetGroup.{BudgetGroup}
use Rattle.envelope_cells.specs.Cells.{leftover, total_income, from_last_month, available_funds, last_month_overspent, total_budgeted, to_budget, total_spent, total_leftover}
use Rattle.envelope_cells.specs.Ids.{month_number}
use Rattle.envelope_cells.specs.Names.{kind_number, cell_cmp}
use Rattle.envelope_cells.specs.CellOf.{of_month, of_category, of_group, group_named, flag_value, value_of}
use Rattle.envelope_cells.specs.SheetOf.{cell, month_cells, categories_cells, group_cells, groups_cells, value_named}
use Rattle.envelope_cells.specs.declared.name.Cell.{Cell}
use Rattle.envelope_cells.specs.declared.name.CellName.{CellName}
use Rattle.envelope_cells.specs.declared.name.CellKind.{CellKind}
use Rattle.envelope_cells.specs.declared.name.CellKind.TheVariants.{TotalIncome, FromLastMonth, AvailableFunds, LastMonthOverspent, TotalBudgeted, Buffered, ToBudget, TotalSpent, TotalLeftover, GroupSum, GroupBudget, GroupLeftover, Sum, Budget as OfBudget, Carryover, Leftover}
use Rattle.envelope_cells.specs.Laws.{SheetsTellCells}
use Rattle.envelope_cells.proofs.Among.{same_texts, among-append}

abbrev or_else : Option ℤ → Option ℤ → Option ℤ
or_else None y = y
or_else (Some x) y = Some x

named-append : (xs ys : List Cell) (n : CellName) → value_named (xs ++ ys) n ≡ or_else (value_named xs n) (value_named ys n)
named-append [] ys n = refl
named-append (x ∷ xs) ys n = by (eq_by_cmp cell_cmp n x.name) (named-append xs ys n)
  where
    by : (t : Bool) → value_named (xs ++ ys) n ≡ or_else (value_named xs n) (value_named ys n) → cond t (Some x.value) (value_named (xs ++ ys) n) ≡ or_else (cond t (Some x.value) (value_named xs n)) (value_named ys n)
    by true h = refl
    by false h = h

abbrev name : ℕ → CellKind → Text → CellName
name month k id = record { month = month; kind = k; id = id }

-- in one month kinds and ids tell names apart
kinds_and_ids : (month : ℕ) (k l : CellKind) (id other : Text) → eq_by_cmp cell_cmp (name month k id) (name month l other) ≡ is_eq (ordering_then (nat_cmp (kind_number k) (kind_number l)) (text_cmp id other))
kinds_and_ids month k l id other = ap (λ o. is_eq (ordering_then o (ordering_then (nat_cmp (kind_number k) (kind_number l)) (text_cmp id other)))) (tied_itself nat_cmp_total month)

below : (m n : ℕ) → m < n → ltb m n ≡ true
below m n h = grind (arith, nat_tests)

apart : (m n : ℕ) (o : Ordering) → m < n → is_eq (ordering_then (nat_cmp m n) o) ≡ false
apart m n o h = ap (λ t. is_eq (ordering_then (cond t Less (cond (eqb m n) Equal Greater)) o)) (below m n h)

above : (m n : ℕ) (o : Ordering) → n < m → is_eq (ordering_then (nat_cmp m n) o) ≡ false
above m n o h =
    let not_below : ltb m n ≡ false = grind (arith, nat_tests) in
    let not_same : eqb m n ≡ false = grind (arith, nat_tests) in
    ap (λ t. is_eq (ordering_then (cond t Less (cond (eqb m n) Equal Greater)) o)) not_below ∙ ap (λ t. is_eq (ordering_then (cond t Equal Greater) o)) not_same

-- a cell of another kind is passed over
skip : (month : ℕ) (k l : CellKind) (id other : Text) (z : ℤ) (cs : List Cell) → (is_eq (ordering_then (nat_cmp (kind_number k) (kind_number l)) (text_cmp id other)) ≡ false) → value_named (cell month l other z ∷ cs) (name month k id) ≡ value_named cs (name month k id)
skip month k l id other z cs h = ap (λ t. cond t (Some z) (value_named cs (name month k id))) (kinds_and_ids month k l id other ∙ h)

-- a cell of the kind is looked at
look : (month : ℕ) (k : CellKind) (id other : Text) (z : ℤ) (cs : List Cell) → value_named (cell month k other z ∷ cs) (name month k id) ≡ cond (eq_by_cmp text_cmp id other) (Some z) (value_named cs (name month k id))
look month k id other z cs =
    ap (λ t. cond t (Some z) (value_named cs (name month k id)))
    (kinds_and_ids month k k id other ∙ ap (λ o. is_eq (ordering_then o (text_cmp id other))) (tied_itself nat_cmp_total (kind_number k)))

-- the cell of a category, or one of the others
pick : (id c : Text) (f : Text → ℤ) (cs : List Text) (rest : Option ℤ) → rest ≡ of_category cs id (f id) → cond (eq_by_cmp text_cmp id c) (Some (f c)) rest ≡ of_category (c ∷ cs) id (f id)
pick id c f cs rest h = by (eq_by_cmp text_cmp id c) refl
  where
    by : (t : Bool) → eq_by_cmp text_cmp id c ≡ t → cond t (Some (f c)) rest ≡ cond (t || is_among text_cmp cs id) (Some (f id)) None
    by true e = ap (λ q. Some (f q)) (sym (same_texts id c e))
    by false e = h

module _ (b : Budget) (month m : ℕ) (id : Text) where
  -- ---- the cells of categories
  low_kinds : (k : CellKind) → kind_number k < 12 → (t : Bool) (cs : List Text) → value_named (categories_cells b month m t cs) (name month k id) ≡ None
  low_kinds k h t [] = refl
  low_kinds k h true (c ∷ cs) = skip month k Sum id c (b.category_sum c m) (categories_cells b month m true cs) (apart (kind_number k) 12 (text_cmp id c) (omega arith)) ∙ low_kinds k h true cs
  low_kinds k h false (c ∷ cs) =
      skip month k Sum id c (b.category_sum c m) (cell month OfBudget c (b.budgeted c m) ∷ cell month Carryover c (flag_value (b.carries c m)) ∷ cell month Leftover c (leftover b c m) ∷ categories_cells b month m false cs) (apart (kind_number k) 12 (text_cmp id c) (omega arith))
      ∙ skip month k OfBudget id c (b.budgeted c m) (cell month Carryover c (flag_value (b.carries c m)) ∷ cell month Leftover c (leftover b c m) ∷ categories_cells b month m false cs) (apart (kind_number k) 13 (text_cmp id c) (omega arith))
      ∙ skip month k Carryover id c (flag_value (b.carries c m)) (cell month Leftover c (leftover b c m) ∷ categories_cells b month m false cs) (apart (kind_number k) 14 (text_cmp id c) (omega arith))
      ∙ skip month k Leftover id c (leftover b c m) (categories_cells b month m false cs) (apart (kind_number k) 15 (text_cmp id c) (omega arith))
      ∙ low_kinds k h false cs

  sums_in : (t : Bool) (cs : List Text) → value_named (categories_cells b month m t cs) (name month Sum id) ≡ of_category cs id (b.category_sum id m)
  sums_in t [] = refl
  sums_in true (c ∷ cs) =
      look month Sum id c (b.category_sum c m) (categories_cells b month m true cs)
      ∙ pick id c (λ q. b.category_sum q m) cs (value_named (categories_cells b month m true cs) (name month Sum id)) (sums_in true cs)
  sums_in false (c ∷ cs) =
      look month Sum id c (b.category_sum c m) (cell month OfBudget c (b.budgeted c m) ∷ cell month Carryover c (flag_value (b.carries c m)) ∷ cell month Leftover c (leftover b c m) ∷ categories_cells b month m false cs)
      ∙ pick id c (λ q. b.category_sum q m) cs (value_named (cell month OfBudget c (b.budgeted c m) ∷ cell month Carryover c (flag_value (b.carries c m)) ∷ cell month Leftover c (leftover b c m) ∷ categories_cells b month m false cs) (name month Sum id)) (skip month Sum OfBudget id c (b.budgeted c m) (cell month Carryover c (flag_value (b.carries c m)) ∷ cell month Leftover c (leftover b c m) ∷ categories_cells b month m false cs) refl ∙ skip month Sum Carryover id c (flag_value (b.carries c m)) (cell month Leftover c (leftover b c m) ∷ categories_cells b month m false cs) refl ∙ skip month Sum Leftover id c (leftover b c m) (categories_cells b month m false cs) refl ∙ sums_in false cs)

  -- a kind that categories of expenses alone have
  high_kinds : (k : CellKind) → 12 < kind_number k → (cs : List Text) → value_named (categories_cells b month m true cs) (name month k id) ≡ None
  high_kinds k h [] = refl
  high_kinds k h (c ∷ cs) = skip month k Sum id c (b.category_sum c m) (categories_cells b month m true cs) (above (kind_number k) 12 (text_cmp id c) h) ∙ high_kinds k h cs

  budgets_in : (cs : List Text) → value_named (categories_cells b month m false cs) (name month OfBudget id) ≡ of_category cs id (b.budgeted id m)
  budgets_in [] = refl
  budgets_in (c ∷ cs) =
      skip month OfBudget Sum id c (b.category_sum c m) (cell month OfBudget c (b.budgeted c m) ∷ cell month Carryover c (flag_value (b.carries c m)) ∷ cell month Leftover c (leftover b c m) ∷ categories_cells b month m false cs) refl
      ∙ look month OfBudget id c (b.budgeted c m) (cell month Carryover c (flag_value (b.carries c m)) ∷ cell month Leftover c (leftover b c m) ∷ categories_cells b month m false cs)
      ∙ pick id c (λ q. b.budgeted q m) cs (value_named (cell month Carryover c (flag_value (b.carries c m)) ∷ cell month Leftover c (leftover b c m) ∷ categories_cells b month m false cs) (name month OfBudget id)) (skip month OfBudget Carryover id c (flag_value (b.carries c m)) (cell month Leftover c (leftover b c m) ∷ categories_cells b month m false cs) refl ∙ skip month OfBudget Leftover id c (leftover b c m) (categories_cells b month m false cs) refl ∙ budgets_in cs)

  flags_in : (cs : List Text) → value_named (categories_cells b month m false cs) (name month Carryover id) ≡ of_category cs id (flag_value (b.carries id m))
  flags_in [] = refl
  flags_in (c ∷ cs) =
      skip month Carryover Sum id c (b.category_sum c m) (cell month OfBudget c (b.budgeted c m) ∷ cell month Carryover c (flag_value (b.carries c m)) ∷ cell month Leftover c (leftover b c m) ∷ categories_cells b month m false cs) refl
      ∙ skip month Carryover OfBudget id c (b.budgeted c m) (cell month Carryover c (flag_value (b.carries c m)) ∷ cell month Leftover c (leftover b c m) ∷ categories_cells b month m false cs) refl
      ∙ look month Carryover id c (flag_value (b.carries c m)) (cell month Leftover c (leftover b c m) ∷ categories_cells b month m false cs)
      ∙ pick id c (λ q. flag_value (b.carries q m)) cs (value_named (cell month Leftover c (leftover b c m) ∷ categories_cells b month m false cs) (name month Carryover id)) (skip month Carryover Leftover id c (leftover b c m) (categories_cells b month m false cs) refl ∙ flags_in cs)

  leftovers_in : (cs : List Text) → value_named (categories_cells b month m false cs) (name month Leftover id) ≡ of_category cs id (leftover b id m)
  leftovers_in [] = refl
  leftovers_in (c ∷ cs) =
      skip month Leftover Sum id c (b.category_sum c m) (cell month OfBudget c (b.budgeted c m) ∷ cell month Carryover c (flag_value (b.carries c m)) ∷ cell month Leftover c (leftover b c m) ∷ categories_cells b month m false cs) refl
      ∙ skip month Leftover OfBudget id c (b.budgeted c m) (cell month Carryover c (flag_value (b.carries c m)) ∷ cell month Leftover c (leftover b c m) ∷ categories_cells b month m false cs) refl
      ∙ skip month Leftover Carryover id c (flag_value (b.carries c m)) (cell month Leftover c (leftover b c m) ∷ categories_cells b month m false cs) refl
      ∙ look month Leftover id c (leftover b c m) (categories_cells b month m false cs)
      ∙ pick id c (λ q. leftover b q m) cs (value_named (categories_cells b month m false cs) (name month Leftover id)) (leftovers_in cs)

  -- ---- the cells of a group alone
  group_low : (k : CellKind) → kind_number k < 9 → (g : BudgetGroup) → value_named (group_cells b month m g) (name month k id) ≡ None
  group_low k h g = skip month k GroupSum id g.id (total (λ c. b.category_sum c m) g.categories) (cond g.is_income [] (cell month GroupBudget g.id (total (λ c. b.budgeted c m) g.categories) ∷ cell month GroupLeftover g.id (total (λ c. leftover b c m) g.categories) ∷ [])) (apart (kind_number k) 9 (text_cmp id g.id) (omega arith)) ∙ by g.is_income
    where
      by : (t : Bool) → value_named (cond t [] (cell month GroupBudget g.id (total (λ c. b.budgeted c m) g.categories) ∷ cell month GroupLeftover g.id (total (λ c. leftover b c m) g.categories) ∷ [])) (name month k id) ≡ None
      by true = refl
      by false = skip month k GroupBudget id g.id (total (λ c. b.budgeted c m) g.categories) (cell month GroupLeftover g.id (total (λ c. leftover b c m) g.categories) ∷ []) (apart (kind_number k) 10 (text_cmp id g.id) (omega arith)) ∙ skip month k GroupLeftover id g.id (total (λ c. leftover b c m) g.categories) ([]) (apart (kind_number k) 11 (text_cmp id g.id) (omega arith))

  group_high : (k : CellKind) → 11 < kind_number k → (g : BudgetGroup) → value_named (group_cells b month m g) (name month k id) ≡ None
  group_high k h g = skip month k GroupSum id g.id (total (λ c. b.category_sum c m) g.categories) (cond g.is_income [] (cell month GroupBudget g.id (total (λ c. b.budgeted c m) g.categories) ∷ cell month GroupLeftover g.id (total (λ c. leftover b c m) g.categories) ∷ [])) (above (kind_number k) 9 (text_cmp id g.id) (omega arith)) ∙ by g.is_income
    where
      by : (t : Bool) → value_named (cond t [] (cell month GroupBudget g.id (total (λ c. b.budgeted c m) g.categories) ∷ cell month GroupLeftover g.id (total (λ c. leftover b c m) g.categories) ∷ [])) (name month k id) ≡ None
      by true = refl
      by false = skip month k GroupBudget id g.id (total (λ c. b.budgeted c m) g.categories) (cell month GroupLeftover g.id (total (λ c. leftover b c m) g.categories) ∷ []) (above (kind_number k) 10 (text_cmp id g.id) (omega arith)) ∙ skip month k GroupLeftover id g.id (total (λ c. leftover b c m) g.categories) ([]) (above (kind_number k) 11 (text_cmp id g.id) (omega arith))

  -- ---- the cells of groups
  step : (k : CellKind) (g : BudgetGroup) (gs : List BudgetGroup) (x y z : Option ℤ) → value_named (group_cells b month m g) (name month k id) ≡ x → value_named (categories_cells b month m g.is_income g.categories) (name month k id) ≡ y → value_named (groups_cells b month m gs) (name month k id) ≡ z → value_named (groups_cells b month m (g ∷ gs)) (name month k id) ≡ or_else (or_else x y) z
  step k g gs x y z p q r =
      named-append (group_cells b month m g ++ categories_cells b month m g.is_income g.categories) (groups_cells b month m gs) (name month k id)
      ∙ ap (λ o. or_else o (value_named (groups_cells b month m gs) (name month k id))) (named-append (group_cells b month m g) (categories_cells b month m g.is_income g.categories) (name month k id))
      ∙ ap (λ o. or_else (or_else o (value_named (categories_cells b month m g.is_income g.categories) (name month k id))) (value_named (groups_cells b month m gs) (name month k id))) p
      ∙ ap (λ o. or_else (or_else x o) (value_named (groups_cells b month m gs) (name month k id))) q
      ∙ ap (λ o. or_else (or_else x y) o) r

  groups_low : (k : CellKind) → kind_number k < 9 → (gs : List BudgetGroup) → value_named (groups_cells b month m gs) (name month k id) ≡ None
  groups_low k h [] = refl
  groups_low k h (g ∷ gs) = step k g gs None None None (group_low k h g) (low_kinds k (omega arith) g.is_income g.categories) (groups_low k h gs)

  merged : (xs ys : List Text) (z : ℤ) → or_else (of_category xs id z) (of_category ys id z) ≡ of_category (xs ++ ys) id z
  merged xs ys z = by (is_among text_cmp xs id) ∙ ap (λ t. cond t (Some z) None) (sym (among-append xs ys id))
    where
      by : (t : Bool) → or_else (cond t (Some z) None) (of_category ys id z) ≡ cond (t || is_among text_cmp ys id) (Some z) None
      by true = refl
      by false = refl

  groups_sums : (gs : List BudgetGroup) → value_named (groups_cells b month m gs) (name month Sum id) ≡ of_category (categories_of gs) id (b.category_sum id m)
  groups_sums [] = refl
  groups_sums (g ∷ gs) =
      step Sum g gs None (of_category g.categories id (b.category_sum id m)) (of_category (categories_of gs) id (b.category_sum id m)) (group_high Sum (omega arith) g) (sums_in g.is_income g.categories) (groups_sums gs)
      ∙ merged g.categories (categories_of gs) (b.category_sum id m)

  -- a kind that categories of expenses alone have
  groups_expenses : (k : CellKind) → 12 < kind_number k → (z : ℤ) → ((cs : List Text) → value_named (categories_cells b month m false cs) (name month k id) ≡ of_category cs id z)
      → (gs : List BudgetGroup) → value_named (groups_cells b month m gs) (name month k id) ≡ of_category (categories_of (filter (λ g. not g.is_income) gs)) id z
  groups_expenses k h z inside [] = refl
  groups_expenses k h z inside (g ∷ gs) =
      step k g gs None (value_named (categories_cells b month m g.is_income g.categories) (name month k id)) (of_category (categories_of (filter (λ g. not g.is_income) gs)) id z) (group_high k (omega arith) g) refl (groups_expenses k h z inside gs)
      ∙ by g.is_income
    where
      by : (t : Bool) → or_else (value_named (categories_cells b month m t g.categories) (name month k id)) (of_category (categories_of (filter (λ g. not g.is_income) gs)) id z)
          ≡ of_category (categories_of (cond (not t) (g ∷ filter (λ g. not g.is_income) gs) (filter (λ g. not g.is_income) gs))) id z
      by true = ap (λ o. or_else o (of_category (categories_of (filter (λ g. not g.is_income) gs)) id z)) (high_kinds k h g.categories)
      by false = ap (λ o. or_else o (of_category (categories_of (filter (λ g. not g.is_income) gs)) id z)) (inside g.categories) ∙ merged g.categories (categories_of (filter (λ g. not g.is_income) gs)) z

  -- the first group with the id
  chosen : (f : Text → ℤ) (g : BudgetGroup) (gs : List BudgetGroup) → or_else (or_else (cond (eq_by_cmp text_cmp id g.id) (Some (total f g.categories)) None) None) (of_group f (group_named gs id)) ≡ of_group f (group_named (g ∷ gs) id)
  chosen f g gs = by (eq_by_cmp text_cmp id g.id)
    where
      by : (t : Bool) → or_else (or_else (cond t (Some (total f g.categories)) None) None) (of_group f (group_named gs id)) ≡ of_group f (cond t (Some g) (group_named gs id))
      by true = refl
      by false = refl

  group_sums : (gs : List BudgetGroup) → value_named (groups_cells b month m gs) (name month GroupSum id) ≡ of_group (λ c. b.category_sum c m) (group_named gs id)
  group_sums [] = refl
  group_sums (g ∷ gs) =
      step GroupSum g gs (cond (eq_by_cmp text_cmp id g.id) (Some (total (λ c. b.category_sum c m) g.categories)) None) None (of_group (λ c. b.category_sum c m) (group_named gs id))
      (look month GroupSum id g.id (total (λ c. b.category_sum c m) g.categories) (cond g.is_income [] (cell month GroupBudget g.id (total (λ c. b.budgeted c m) g.categories) ∷ cell month GroupLeftover g.id (total (λ c. leftover b c m) g.categories) ∷ [])) ∙ ap (cond (eq_by_cmp text_cmp id g.id) (Some (total (λ c. b.category_sum c m) g.categories))) (by g.is_income)) (low_kinds GroupSum (omega arith) g.is_income g.categories) (group_sums gs)
      ∙ chosen (λ c. b.category_sum c m) g gs
    where
      by : (t : Bool) → value_named (cond t [] (cell month GroupBudget g.id (total (λ c. b.budgeted c m) g.categories) ∷ cell month GroupLeftover g.id (total (λ c. leftover b c m) g.categories) ∷ [])) (name month GroupSum id) ≡ None
      by true = refl
      by false = skip month GroupSum GroupBudget id g.id (total (λ c. b.budgeted c m) g.categories) (cell month GroupLeftover g.id (total (λ c. leftover b c m) g.categories) ∷ []) refl ∙ skip month GroupSum GroupLeftover id g.id (total (λ c. leftover b c m) g.categories) ([]) refl

  -- a kind that groups of expenses alone have
  group_expenses : (k : CellKind) → kind_number k < 12 → (f : Text → ℤ)
      → ((g : BudgetGroup) → value_named (cell month GroupSum g.id (total (λ c. b.category_sum c m) g.categories) ∷ []) (name month k id) ≡ None)
      → ((g : BudgetGroup) → value_named (cell month GroupSum g.id (total (λ c. b.category_sum c m) g.categories) ∷ cell month GroupBudget g.id (total (λ c. b.budgeted c m) g.categories) ∷ cell month GroupLeftover g.id (total (λ c. leftover b c m) g.categories) ∷ []) (name month k id) ≡ cond (eq_by_cmp text_cmp id g.id) (Some (total f g.categories)) None)
      → (gs : List BudgetGroup) → value_named (groups_cells b month m gs) (name month k id) ≡ of_group f (group_named (filter (λ g. not g.is_income) gs) id)
  group_expenses k h f none own [] = refl
  group_expenses k h f none own (g ∷ gs) =
      step k g gs (value_named (group_cells b month m g) (name month k id)) None (of_group f (group_named (filter (λ g. not g.is_income) gs) id)) refl (low_kinds k h g.is_income g.categories) (group_expenses k h f none own gs)
      ∙ by g.is_income
    where
      by : (t : Bool) → or_else (or_else (value_named (cell month GroupSum g.id (total (λ c. b.category_sum c m) g.categories) ∷ cond t [] (cell month GroupBudget g.id (total (λ c. b.budgeted c m) g.categories) ∷ cell month GroupLeftover g.id (total (λ c. leftover b c m) g.categories) ∷ [])) (name month k id)) None) (of_group f (group_named (filter (λ g. not g.is_income) gs) id))
          ≡ of_group f (group_named (cond (not t) (g ∷ filter (λ g. not g.is_income) gs) (filter (λ g. not g.is_income) gs)) id)
      by true = ap (λ o. or_else (or_else o None) (of_group f (group_named (filter (λ g. not g.is_income) gs) id))) (none g)
      by false = ap (λ o. or_else (or_else o None) (of_group f (group_named (filter (λ g. not g.is_income) gs) id))) (own g) ∙ chosen f g (filter (λ g. not g.is_income) gs)

  group_budgets : (gs : List BudgetGroup) → value_named (groups_cells b month m gs) (name month GroupBudget id) ≡ of_group (λ c. b.budgeted c m) (group_named (filter (λ g. not g.is_income) gs) id)
  group_budgets = group_expenses GroupBudget (omega arith) (λ c. b.budgeted c m)
      (λ g. skip month GroupBudget GroupSum id g.id (total (λ c. b.category_sum c m) g.categories) ([]) refl)
      (λ g. skip month GroupBudget GroupSum id g.id (total (λ c. b.category_sum c m) g.categories) (cell month GroupBudget g.id (total (λ c. b.budgeted c m) g.categories) ∷ cell month GroupLeftover g.id (total (λ c. leftover b c m) g.categories) ∷ []) refl ∙ look month GroupBudget id g.id (total (λ c. b.budgeted c m) g.categories) (cell month GroupLeftover g.id (total (λ c. leftover b c m) g.categories) ∷ []) ∙ ap (cond (eq_by_cmp text_cmp id g.id) (Some (total (λ c. b.budgeted c m) g.categories))) (skip month GroupBudget GroupLeftover id g.id (total (λ c. leftover b c m) g.categories) ([]) refl))

  group_leftovers : (gs : List BudgetGroup) → value_named (groups_cells b month m gs) (name month GroupLeftover id) ≡ of_group (λ c. leftover b c m) (group_named (filter (λ g. not g.is_income) gs) id)
  group_leftovers = group_expenses GroupLeftover (omega arith) (λ c. leftover b c m)
      (λ g. skip month GroupLeftover GroupSum id g.id (total (λ c. b.category_sum c m) g.categories) ([]) refl)
      (λ g. skip month GroupLeftover GroupSum id g.id (total (λ c. b.category_sum c m) g.categories) (cell month GroupBudget g.id (total (λ c. b.budgeted c m) g.categories) ∷ cell month GroupLeftover g.id (total (λ c. leftover b c m) g.categories) ∷ []) refl ∙ skip month GroupLeftover GroupBudget id g.id (total (λ c. b.budgeted c m) g.categories) (cell month GroupLeftover g.id (total (λ c. leftover b c m) g.categories) ∷ []) refl ∙ look month GroupLeftover id g.id (total (λ c. leftover b c m) g.categories) ([]) ∙ ap (cond (eq_by_cmp text_cmp id g.id) (Some (total (λ c. leftover b c m) g.categories))) (refl))

  -- ---- the cells of the whole month
  none_in_month : (k : CellKind) → 8 < kind_number k → value_named (month_cells b month m) (name month k id) ≡ None
  none_in_month k h =
      skip month k TotalIncome id [] (total_income b m) (cell month FromLastMonth [] (from_last_month b m) ∷ cell month AvailableFunds [] (available_funds b m) ∷ cell month LastMonthOverspent [] (last_month_overspent b m) ∷ cell month TotalBudgeted [] (total_budgeted b m) ∷ cell month Buffered [] (b.buffered m) ∷ cell month ToBudget [] (to_budget b m) ∷ cell month TotalSpent [] (total_spent b m) ∷ cell month TotalLeftover [] (total_leftover b m) ∷ []) (above (kind_number k) 0 (text_cmp id []) (omega arith))
      ∙ skip month k FromLastMonth id [] (from_last_month b m) (cell month AvailableFunds [] (available_funds b m) ∷ cell month LastMonthOverspent [] (last_month_overspent b m) ∷ cell month TotalBudgeted [] (total_budgeted b m) ∷ cell month Buffered [] (b.buffered m) ∷ cell month ToBudget [] (to_budget b m) ∷ cell month TotalSpent [] (total_spent b m) ∷ cell month TotalLeftover [] (total_leftover b m) ∷ []) (above (kind_number k) 1 (text_cmp id []) (omega arith))
      ∙ skip month k AvailableFunds id [] (available_funds b m) (cell month LastMonthOverspent [] (last_month_overspent b m) ∷ cell month TotalBudgeted [] (total_budgeted b m) ∷ cell month Buffered [] (b.buffered m) ∷ cell month ToBudget [] (to_budget b m) ∷ cell month TotalSpent [] (total_spent b m) ∷ cell month TotalLeftover [] (total_leftover b m) ∷ []) (above (kind_number k) 2 (text_cmp id []) (omega arith))
      ∙ skip month k LastMonthOverspent id [] (last_month_overspent b m) (cell month TotalBudgeted [] (total_budgeted b m) ∷ cell month Buffered [] (b.buffered m) ∷ cell month ToBudget [] (to_budget b m) ∷ cell month TotalSpent [] (total_spent b m) ∷ cell month TotalLeftover [] (total_leftover b m) ∷ []) (above (kind_number k) 3 (text_cmp id []) (omega arith))
      ∙ skip month k TotalBudgeted id [] (total_budgeted b m) (cell month Buffered [] (b.buffered m) ∷ cell month ToBudget [] (to_budget b m) ∷ cell month TotalSpent [] (total_spent b m) ∷ cell month TotalLeftover [] (total_leftover b m) ∷ []) (above (kind_number k) 4 (text_cmp id []) (omega arith))
      ∙ skip month k Buffered id [] (b.buffered m) (cell month ToBudget [] (to_budget b m) ∷ cell month TotalSpent [] (total_spent b m) ∷ cell month TotalLeftover [] (total_leftover b m) ∷ []) (above (kind_number k) 5 (text_cmp id []) (omega arith))
      ∙ skip month k ToBudget id [] (to_budget b m) (cell month TotalSpent [] (total_spent b m) ∷ cell month TotalLeftover [] (total_leftover b m) ∷ []) (above (kind_number k) 6 (text_cmp id []) (omega arith))
      ∙ skip month k TotalSpent id [] (total_spent b m) (cell month TotalLeftover [] (total_leftover b m) ∷ []) (above (kind_number k) 7 (text_cmp id []) (omega arith))
      ∙ skip month k TotalLeftover id [] (total_leftover b m) [] (above (kind_number k) 8 (text_cmp id []) (omega arith))

  only_empty : (id : Text) (z : ℤ) → cond (eq_by_cmp text_cmp id []) (Some z) None ≡ of_month id z
  only_empty [] z = refl
  only_empty (x ∷ xs) z = refl

  month_0 : value_named (month_cells b month m) (name month TotalIncome id) ≡ of_month id (total_income b m)
  month_0 =
      look month TotalIncome id [] (total_income b m) (cell month FromLastMonth [] (from_last_month b m) ∷ cell month AvailableFunds [] (available_funds b m) ∷ cell month LastMonthOverspent [] (last_month_overspent b m) ∷ cell month TotalBudgeted [] (total_budgeted b m) ∷ cell month Buffered [] (b.buffered m) ∷ cell month ToBudget [] (to_budget b m) ∷ cell month TotalSpent [] (total_spent b m) ∷ cell month TotalLeftover [] (total_leftover b m) ∷ [])
      ∙ ap (cond (eq_by_cmp text_cmp id []) (Some (total_income b m))) (skip month TotalIncome FromLastMonth id [] (from_last_month b m) (cell month AvailableFunds [] (available_funds b m) ∷ cell month LastMonthOverspent [] (last_month_overspent b m) ∷ cell month TotalBudgeted [] (total_budgeted b m) ∷ cell month Buffered [] (b.buffered m) ∷ cell month ToBudget [] (to_budget b m) ∷ cell month TotalSpent [] (total_spent b m) ∷ cell month TotalLeftover [] (total_leftover b m) ∷ []) refl ∙ skip month TotalIncome AvailableFunds id [] (available_funds b m) (cell month LastMonthOverspent [] (last_month_overspent b m) ∷ cell month TotalBudgeted [] (total_budgeted b m) ∷ cell month Buffered [] (b.buffered m) ∷ cell month ToBudget [] (to_budget b m) ∷ cell month TotalSpent [] (total_spent b m) ∷ cell month TotalLeftover [] (total_leftover b m) ∷ []) refl ∙ skip month TotalIncome LastMonthOverspent id [] (last_month_overspent b m) (cell month TotalBudgeted [] (total_budgeted b m) ∷ cell month Buffered [] (b.buffered m) ∷ cell month ToBudget [] (to_budget b m) ∷ cell month TotalSpent [] (total_spent b m) ∷ cell month TotalLeftover [] (total_leftover b m) ∷ []) refl ∙ skip month TotalIncome TotalBudgeted id [] (total_budgeted b m) (cell month Buffered [] (b.buffered m) ∷ cell month ToBudget [] (to_budget b m) ∷ cell month TotalSpent [] (total_spent b m) ∷ cell month TotalLeftover [] (total_leftover b m) ∷ []) refl ∙ skip month TotalIncome Buffered id [] (b.buffered m) (cell month ToBudget [] (to_budget b m) ∷ cell month TotalSpent [] (total_spent b m) ∷ cell month TotalLeftover [] (total_leftover b m) ∷ []) refl ∙ skip month TotalIncome ToBudget id [] (to_budget b m) (cell month TotalSpent [] (total_spent b m) ∷ cell month TotalLeftover [] (total_leftover b m) ∷ []) refl ∙ skip month TotalIncome TotalSpent id [] (total_spent b m) (cell month TotalLeftover [] (total_leftover b m) ∷ []) refl ∙ skip month TotalIncome TotalLeftover id [] (total_leftover b m) [] refl)
      ∙ only_empty id (total_income b m)

  month_1 : value_named (month_cells b month m) (name month FromLastMonth id) ≡ of_month id (from_last_month b m)
  month_1 =
      skip month FromLastMonth TotalIncome id [] (total_income b m) (cell month FromLastMonth [] (from_last_month b m) ∷ cell month AvailableFunds [] (available_funds b m) ∷ cell month LastMonthOverspent [] (last_month_overspent b m) ∷ cell month TotalBudgeted [] (total_budgeted b m) ∷ cell month Buffered [] (b.buffered m) ∷ cell month ToBudget [] (to_budget b m) ∷ cell month TotalSpent [] (total_spent b m) ∷ cell month TotalLeftover [] (total_leftover b m) ∷ []) refl
      ∙ look month FromLastMonth id [] (from_last_month b m) (cell month AvailableFunds [] (available_funds b m) ∷ cell month LastMonthOverspent [] (last_month_overspent b m) ∷ cell month TotalBudgeted [] (total_budgeted b m) ∷ cell month Buffered [] (b.buffered m) ∷ cell month ToBudget [] (to_budget b m) ∷ cell month TotalSpent [] (total_spent b m) ∷ cell month TotalLeftover [] (total_leftover b m) ∷ [])
      ∙ ap (cond (eq_by_cmp text_cmp id []) (Some (from_last_month b m))) (skip month FromLastMonth AvailableFunds id [] (available_funds b m) (cell month LastMonthOverspent [] (last_month_overspent b m) ∷ cell month TotalBudgeted [] (total_budgeted b m) ∷ cell month Buffered [] (b.buffered m) ∷ cell month ToBudget [] (to_budget b m) ∷ cell month TotalSpent [] (total_spent b m) ∷ cell month TotalLeftover [] (total_leftover b m) ∷ []) refl ∙ skip month FromLastMonth LastMonthOverspent id [] (last_month_overspent b m) (cell month TotalBudgeted [] (total_budgeted b m) ∷ cell month Buffered [] (b.buffered m) ∷ cell month ToBudget [] (to_budget b m) ∷ cell month TotalSpent [] (total_spent b m) ∷ cell month TotalLeftover [] (total_leftover b m) ∷ []) refl ∙ skip month FromLastMonth TotalBudgeted id [] (total_budgeted b m) (cell month Buffered [] (b.buffered m) ∷ cell month ToBudget [] (to_budget b m) ∷ cell month TotalSpent [] (total_spent b m) ∷ cell month TotalLeftover [] (total_leftover b m) ∷ []) refl ∙ skip month FromLastMonth Buffered id [] (b.buffered m) (cell month ToBudget [] (to_budget b m) ∷ cell month TotalSpent [] (total_spent b m) ∷ cell month TotalLeftover [] (total_leftover b m) ∷ []) refl ∙ skip month FromLastMonth ToBudget id [] (to_budget b m) (cell month TotalSpent [] (total_spent b m) ∷ cell month TotalLeftover [] (total_leftover b m) ∷ []) refl ∙ skip month FromLastMonth TotalSpent id [] (total_spent b m) (cell month TotalLeftover [] (total_leftover b m) ∷ []) refl ∙ skip month FromLastMonth TotalLeftover id [] (total_leftover b m) [] refl)
      ∙ only_empty id (from_last_month b m)

  month_2 : value_named (month_cells b month m) (name month AvailableFunds id) ≡ of_month id (available_funds b m)
  month_2 =
      skip month AvailableFunds TotalIncome id [] (total_income b m) (cell month FromLastMonth [] (from_last_month b m) ∷ cell month AvailableFunds [] (available_funds b m) ∷ cell month LastMonthOverspent [] (last_month_overspent b m) ∷ cell month TotalBudgeted [] (total_budgeted b m) ∷ cell month Buffered [] (b.buffered m) ∷ cell month ToBudget [] (to_budget b m) ∷ cell month TotalSpent [] (total_spent b m) ∷ cell month TotalLeftover [] (total_leftover b m) ∷ []) refl
      ∙ skip month AvailableFunds FromLastMonth id [] (from_last_month b m) (cell month AvailableFunds [] (available_funds b m) ∷ cell month LastMonthOverspent [] (last_month_overspent b m) ∷ cell month TotalBudgeted [] (total_budgeted b m) ∷ cell month Buffered [] (b.buffered m) ∷ cell month ToBudget [] (to_budget b m) ∷ cell month TotalSpent [] (total_spent b m) ∷ cell month TotalLeftover [] (total_leftover b m) ∷ []) refl
      ∙ look month AvailableFunds id [] (available_funds b m) (cell month LastMonthOverspent [] (last_month_overspent b m) ∷ cell month TotalBudgeted [] (total_budgeted b m) ∷ cell month Buffered [] (b.buffered m) ∷ cell month ToBudget [] (to_budget b m) ∷ cell month TotalSpent [] (total_spent b m) ∷ cell month TotalLeftover [] (total_leftover b m) ∷ [])
      ∙ ap (cond (eq_by_cmp text_cmp id []) (Some (available_funds b m))) (skip month AvailableFunds LastMonthOverspent id [] (last_month_overspent b m) (cell month TotalBudgeted [] (total_budgeted b m) ∷ cell month Buffered [] (b.buffered m) ∷ cell month ToBudget [] (to_budget b m) ∷ cell month TotalSpent [] (total_spent b m) ∷ cell month TotalLeftover [] (total_leftover b m) ∷ []) refl ∙ skip month AvailableFunds TotalBudgeted id [] (total_budgeted b m) (cell month Buffered [] (b.buffered m) ∷ cell month ToBudget [] (to_budget b m) ∷ cell month TotalSpent [] (total_spent b m) ∷ cell month TotalLeftover [] (total_leftover b m) ∷ []) refl ∙ skip month AvailableFunds Buffered id [] (b.buffered m) (cell month ToBudget [] (to_budget b m) ∷ cell month TotalSpent [] (total_spent b m) ∷ cell month TotalLeftover [] (total_leftover b m) ∷ []) refl ∙ skip month AvailableFunds ToBudget id [] (to_budget b m) (cell month TotalSpent [] (total_spent b m) ∷ cell month TotalLeftover [] (total_leftover b m) ∷ []) refl ∙ skip month AvailableFunds TotalSpent id [] (total_spent b m) (cell month TotalLeftover [] (total_leftover b m) ∷ []) refl ∙ skip month AvailableFunds TotalLeftover id [] (total_leftover b m) [] refl)
      ∙ only_empty id (available_funds b m)

  month_3 : value_named (month_cells b month m) (name month LastMonthOverspent id) ≡ of_month id (last_month_overspent b m)
  month_3 =
      skip month LastMonthOverspent TotalIncome id [] (total_income b m) (cell month FromLastMonth [] (from_last_month b m) ∷ cell month AvailableFunds [] (available_funds b m) ∷ cell month LastMonthOverspent [] (last_month_overspent b m) ∷ cell month TotalBudgeted [] (total_budgeted b m) ∷ cell month Buffered [] (b.buffered m) ∷ cell month ToBudget [] (to_budget b m) ∷ cell month TotalSpent [] (total_spent b m) ∷ cell month TotalLeftover [] (total_leftover b m) ∷ []) refl
      ∙ skip month LastMonthOverspent FromLastMonth id [] (from_last_month b m) (cell month AvailableFunds [] (available_funds b m) ∷ cell month LastMonthOverspent [] (last_month_overspent b m) ∷ cell month TotalBudgeted [] (total_budgeted b m) ∷ cell month Buffered [] (b.buffered m) ∷ cell month ToBudget [] (to_budget b m) ∷ cell month TotalSpent [] (total_spent b m) ∷ cell month TotalLeftover [] (total_leftover b m) ∷ []) refl
      ∙ skip month LastMonthOverspent AvailableFunds id [] (available_funds b m) (cell month LastMonthOverspent [] (last_month_overspent b m) ∷ cell month TotalBudgeted [] (total_budgeted b m) ∷ cell month Buffered [] (b.buffered m) ∷ cell month ToBudget [] (to_budget b m) ∷ cell month TotalSpent [] (total_spent b m) ∷ cell month TotalLeftover [] (total_leftover b m) ∷ []) refl
      ∙ look month LastMonthOverspent id [] (last_month_overspent b m) (cell month TotalBudgeted [] (total_budgeted b m) ∷ cell month Buffered [] (b.buffered m) ∷ cell month ToBudget [] (to_budget b m) ∷ cell month TotalSpent [] (total_spent b m) ∷ cell month TotalLeftover [] (total_leftover b m) ∷ [])
      ∙ ap (cond (eq_by_cmp text_cmp id []) (Some (last_month_overspent b m))) (skip month LastMonthOverspent TotalBudgeted id [] (total_budgeted b m) (cell month Buffered [] (b.buffered m) ∷ cell month ToBudget [] (to_budget b m) ∷ cell month TotalSpent [] (total_spent b m) ∷ cell month TotalLeftover [] (total_leftover b m) ∷ []) refl ∙ skip month LastMonthOverspent Buffered id [] (b.buffered m) (cell month ToBudget [] (to_budget b m) ∷ cell month TotalSpent [] (total_spent b m) ∷ cell month TotalLeftover [] (total_leftover b m) ∷ []) refl ∙ skip month LastMonthOverspent ToBudget id [] (to_budget b m) (cell month TotalSpent [] (total_spent b m) ∷ cell month TotalLeftover [] (total_leftover b m) ∷ []) refl ∙ skip month LastMonthOverspent TotalSpent id [] (total_spent b m) (cell month TotalLeftover [] (total_leftover b m) ∷ []) refl ∙ skip month LastMonthOverspent TotalLeftover id [] (total_leftover b m) [] refl)
      ∙ only_empty id (last_month_overspent b m)

  month_4 : value_named (month_cells b month m) (name month TotalBudgeted id) ≡ of_month id (total_budgeted b m)
  month_4 =
      skip month TotalBudgeted TotalIncome id [] (total_income b m) (cell month FromLastMonth [] (from_last_month b m) ∷ cell month AvailableFunds [] (available_funds b m) ∷ cell month LastMonthOverspent [] (last_month_overspent b m) ∷ cell month TotalBudgeted [] (total_budgeted b m) ∷ cell month Buffered [] (b.buffered m) ∷ cell month ToBudget [] (to_budget b m) ∷ cell month TotalSpent [] (total_spent b m) ∷ cell month TotalLeftover [] (total_leftover b m) ∷ []) refl
      ∙ skip month TotalBudgeted FromLastMonth id [] (from_last_month b m) (cell month AvailableFunds [] (available_funds b m) ∷ cell month LastMonthOverspent [] (last_month_overspent b m) ∷ cell month TotalBudgeted [] (total_budgeted b m) ∷ cell month Buffered [] (b.buffered m) ∷ cell month ToBudget [] (to_budget b m) ∷ cell month TotalSpent [] (total_spent b m) ∷ cell month TotalLeftover [] (total_leftover b m) ∷ []) refl
      ∙ skip month TotalBudgeted AvailableFunds id [] (available_funds b m) (cell month LastMonthOverspent [] (last_month_overspent b m) ∷ cell month TotalBudgeted [] (total_budgeted b m) ∷ cell month Buffered [] (b.buffered m) ∷ cell month ToBudget [] (to_budget b m) ∷ cell month TotalSpent [] (total_spent b m) ∷ cell month TotalLeftover [] (total_leftover b m) ∷ []) refl
      ∙ skip month TotalBudgeted LastMonthOverspent id [] (last_month_overspent b m) (cell month TotalBudgeted [] (total_budgeted b m) ∷ cell month Buffered [] (b.buffered m) ∷ cell month ToBudget [] (to_budget b m) ∷ cell month TotalSpent [] (total_spent b m) ∷ cell month TotalLeftover [] (total_leftover b m) ∷ []) refl
      ∙ look month TotalBudgeted id [] (total_budgeted b m) (cell month Buffered [] (b.buffered m) ∷ cell month ToBudget [] (to_budget b m) ∷ cell month TotalSpent [] (total_spent b m) ∷ cell month TotalLeftover [] (total_leftover b m) ∷ [])
      ∙ ap (cond (eq_by_cmp text_cmp id []) (Some (total_budgeted b m))) (skip month TotalBudgeted Buffered id [] (b.buffered m) (cell month ToBudget [] (to_budget b m) ∷ cell month TotalSpent [] (total_spent b m) ∷ cell month TotalLeftover [] (total_leftover b m) ∷ []) refl ∙ skip month TotalBudgeted ToBudget id [] (to_budget b m) (cell month TotalSpent [] (total_spent b m) ∷ cell month TotalLeftover [] (total_leftover b m) ∷ []) refl ∙ skip month TotalBudgeted TotalSpent id [] (total_spent b m) (cell month TotalLeftover [] (total_leftover b m) ∷ []) refl ∙ skip month TotalBudgeted TotalLeftover id [] (total_leftover b m) [] refl)
      ∙ only_empty id (total_budgeted b m)

  month_5 : value_named (month_cells b month m) (name month Buffered id) ≡ of_month id (b.buffered m)
  month_5 =
      skip month Buffered TotalIncome id [] (total_income b m) (cell month FromLastMonth [] (from_last_month b m) ∷ cell month AvailableFunds [] (available_funds b m) ∷ cell month LastMonthOverspent [] (last_month_overspent b m) ∷ cell month TotalBudgeted [] (total_budgeted b m) ∷ cell month Buffered [] (b.buffered m) ∷ cell month ToBudget [] (to_budget b m) ∷ cell month TotalSpent [] (total_spent b m) ∷ cell month TotalLeftover [] (total_leftover b m) ∷ []) refl
      ∙ skip month Buffered FromLastMonth id [] (from_last_month b m) (cell month AvailableFunds [] (available_funds b m) ∷ cell month LastMonthOverspent [] (last_month_overspent b m) ∷ cell month TotalBudgeted [] (total_budgeted b m) ∷ cell month Buffered [] (b.buffered m) ∷ cell month ToBudget [] (to_budget b m) ∷ cell month TotalSpent [] (total_spent b m) ∷ cell month TotalLeftover [] (total_leftover b m) ∷ []) refl
      ∙ skip month Buffered AvailableFunds id [] (available_funds b m) (cell month LastMonthOverspent [] (last_month_overspent b m) ∷ cell month TotalBudgeted [] (total_budgeted b m) ∷ cell month Buffered [] (b.buffered m) ∷ cell month ToBudget [] (to_budget b m) ∷ cell month TotalSpent [] (total_spent b m) ∷ cell month TotalLeftover [] (total_leftover b m) ∷ []) refl
      ∙ skip month Buffered LastMonthOverspent id [] (last_month_overspent b m) (cell month TotalBudgeted [] (total_budgeted b m) ∷ cell month Buffered [] (b.buffered m) ∷ cell month ToBudget [] (to_budget b m) ∷ cell month TotalSpent [] (total_spent b m) ∷ cell month TotalLeftover [] (total_leftover b m) ∷ []) refl
      ∙ skip month Buffered TotalBudgeted id [] (total_budgeted b m) (cell month Buffered [] (b.buffered m) ∷ cell month ToBudget [] (to_budget b m) ∷ cell month TotalSpent [] (total_spent b m) ∷ cell month TotalLeftover [] (total_leftover b m) ∷ []) refl
      ∙ look month Buffered id [] (b.buffered m) (cell month ToBudget [] (to_budget b m) ∷ cell month TotalSpent [] (total_spent b m) ∷ cell month TotalLeftover [] (total_leftover b m) ∷ [])
      ∙ ap (cond (eq_by_cmp text_cmp id []) (Some (b.buffered m))) (skip month Buffered ToBudget id [] (to_budget b m) (cell month TotalSpent [] (total_spent b m) ∷ cell month TotalLeftover [] (total_leftover b m) ∷ []) refl ∙ skip month Buffered TotalSpent id [] (total_spent b m) (cell month TotalLeftover [] (total_leftover b m) ∷ []) refl ∙ skip month Buffered TotalLeftover id [] (total_leftover b m) [] refl)
      ∙ only_empty id (b.buffered m)

  month_6 : value_named (month_cells b month m) (name month ToBudget id) ≡ of_month id (to_budget b m)
  month_6 =
      skip month ToBudget TotalIncome id [] (total_income b m) (cell month FromLastMonth [] (from_last_month b m) ∷ cell month AvailableFunds [] (available_funds b m) ∷ cell month LastMonthOverspent [] (last_month_overspent b m) ∷ cell month TotalBudgeted [] (total_budgeted b m) ∷ cell month Buffered [] (b.buffered m) ∷ cell month ToBudget [] (to_budget b m) ∷ cell month TotalSpent [] (total_spent b m) ∷ cell month TotalLeftover [] (total_leftover b m) ∷ []) refl
      ∙ skip month ToBudget FromLastMonth id [] (from_last_month b m) (cell month AvailableFunds [] (available_funds b m) ∷ cell month LastMonthOverspent [] (last_month_overspent b m) ∷ cell month TotalBudgeted [] (total_budgeted b m) ∷ cell month Buffered [] (b.buffered m) ∷ cell month ToBudget [] (to_budget b m) ∷ cell month TotalSpent [] (total_spent b m) ∷ cell month TotalLeftover [] (total_leftover b m) ∷ []) refl
      ∙ skip month ToBudget AvailableFunds id [] (available_funds b m) (cell month LastMonthOverspent [] (last_month_overspent b m) ∷ cell month TotalBudgeted [] (total_budgeted b m) ∷ cell month Buffered [] (b.buffered m) ∷ cell month ToBudget [] (to_budget b m) ∷ cell month TotalSpent [] (total_spent b m) ∷ cell month TotalLeftover [] (total_leftover b m) ∷ []) refl
      ∙ skip month ToBudget LastMonthOverspent id [] (last_month_overspent b m) (cell month TotalBudgeted [] (total_budgeted b m) ∷ cell month Buffered [] (b.buffered m) ∷ cell month ToBudget [] (to_budget b m) ∷ cell month TotalSpent [] (total_spent b m) ∷ cell month TotalLeftover [] (total_leftover b m) ∷ []) refl
      ∙ skip month ToBudget TotalBudgeted id [] (total_budgeted b m) (cell month Buffered [] (b.buffered m) ∷ cell month ToBudget [] (to_budget b m) ∷ cell month TotalSpent [] (total_spent b m) ∷ cell month TotalLeftover [] (total_leftover b m) ∷ []) refl
      ∙ skip month ToBudget Buffered id [] (b.buffered m) (cell month ToBudget [] (to_budget b m) ∷ cell month TotalSpent [] (total_spent b m) ∷ cell month TotalLeftover [] (total_leftover b m) ∷ []) refl
      ∙ look month ToBudget id [] (to_budget b m) (cell month TotalSpent [] (total_spent b m) ∷ cell month TotalLeftover [] (total_leftover b m) ∷ [])
      ∙ ap (cond (eq_by_cmp text_cmp id []) (Some (to_budget b m))) (skip month ToBudget TotalSpent id [] (total_spent b m) (cell month TotalLeftover [] (total_leftover b m) ∷ []) refl ∙ skip month ToBudget TotalLeftover id [] (total_leftover b m) [] refl)
      ∙ only_empty id (to_budget b m)

  month_7 : value_named (month_cells b month m) (name month TotalSpent id) ≡ of_month id (total_spent b m)
  month_7 =
      skip month TotalSpent TotalIncome id [] (total_income b m) (cell month FromLastMonth [] (from_last_month b m) ∷ cell month AvailableFunds [] (available_funds b m) ∷ cell month LastMonthOverspent [] (last_month_overspent b m) ∷ cell month TotalBudgeted [] (total_budgeted b m) ∷ cell month Buffered [] (b.buffered m) ∷ cell month ToBudget [] (to_budget b m) ∷ cell month TotalSpent [] (total_spent b m) ∷ cell month TotalLeftover [] (total_leftover b m) ∷ []) refl
      ∙ skip month TotalSpent FromLastMonth id [] (from_last_month b m) (cell month AvailableFunds [] (available_funds b m) ∷ cell month LastMonthOverspent [] (last_month_overspent b m) ∷ cell month TotalBudgeted [] (total_budgeted b m) ∷ cell month Buffered [] (b.buffered m) ∷ cell month ToBudget [] (to_budget b m) ∷ cell month TotalSpent [] (total_spent b m) ∷ cell month TotalLeftover [] (total_leftover b m) ∷ []) refl
      ∙ skip month TotalSpent AvailableFunds id [] (available_funds b m) (cell month LastMonthOverspent [] (last_month_overspent b m) ∷ cell month TotalBudgeted [] (total_budgeted b m) ∷ cell month Buffered [] (b.buffered m) ∷ cell month ToBudget [] (to_budget b m) ∷ cell month TotalSpent [] (total_spent b m) ∷ cell month TotalLeftover [] (total_leftover b m) ∷ []) refl
      ∙ skip month TotalSpent LastMonthOverspent id [] (last_month_overspent b m) (cell month TotalBudgeted [] (total_budgeted b m) ∷ cell month Buffered [] (b.buffered m) ∷ cell month ToBudget [] (to_budget b m) ∷ cell month TotalSpent [] (total_spent b m) ∷ cell month TotalLeftover [] (total_leftover b m) ∷ []) refl
      ∙ skip month TotalSpent TotalBudgeted id [] (total_budgeted b m) (cell month Buffered [] (b.buffered m) ∷ cell month ToBudget [] (to_budget b m) ∷ cell month TotalSpent [] (total_spent b m) ∷ cell month TotalLeftover [] (total_leftover b m) ∷ []) refl
      ∙ skip month TotalSpent Buffered id [] (b.buffered m) (cell month ToBudget [] (to_budget b m) ∷ cell month TotalSpent [] (total_spent b m) ∷ cell month TotalLeftover [] (total_leftover b m) ∷ []) refl
      ∙ skip month TotalSpent ToBudget id [] (to_budget b m) (cell month TotalSpent [] (total_spent b m) ∷ cell month TotalLeftover [] (total_leftover b m) ∷ []) refl
      ∙ look month TotalSpent id [] (total_spent b m) (cell month TotalLeftover [] (total_leftover b m) ∷ [])
      ∙ ap (cond (eq_by_cmp text_cmp id []) (Some (total_spent b m))) (skip month TotalSpent TotalLeftover id [] (total_leftover b m) [] refl)
      ∙ only_empty id (total_spent b m)

  month_8 : value_named (month_cells b month m) (name month TotalLeftover id) ≡ of_month id (total_leftover b m)
  month_8 =
      skip month TotalLeftover TotalIncome id [] (total_income b m) (cell month FromLastMonth [] (from_last_month b m) ∷ cell month AvailableFunds [] (available_funds b m) ∷ cell month LastMonthOverspent [] (last_month_overspent b m) ∷ cell month TotalBudgeted [] (total_budgeted b m) ∷ cell month Buffered [] (b.buffered m) ∷ cell month ToBudget [] (to_budget b m) ∷ cell month TotalSpent [] (total_spent b m) ∷ cell month TotalLeftover [] (total_leftover b m) ∷ []) refl
      ∙ skip month TotalLeftover FromLastMonth id [] (from_last_month b m) (cell month AvailableFunds [] (available_funds b m) ∷ cell month LastMonthOverspent [] (last_month_overspent b m) ∷ cell month TotalBudgeted [] (total_budgeted b m) ∷ cell month Buffered [] (b.buffered m) ∷ cell month ToBudget [] (to_budget b m) ∷ cell month TotalSpent [] (total_spent b m) ∷ cell month TotalLeftover [] (total_leftover b m) ∷ []) refl
      ∙ skip month TotalLeftover AvailableFunds id [] (available_funds b m) (cell month LastMonthOverspent [] (last_month_overspent b m) ∷ cell month TotalBudgeted [] (total_budgeted b m) ∷ cell month Buffered [] (b.buffered m) ∷ cell month ToBudget [] (to_budget b m) ∷ cell month TotalSpent [] (total_spent b m) ∷ cell month TotalLeftover [] (total_leftover b m) ∷ []) refl
      ∙ skip month TotalLeftover LastMonthOverspent id [] (last_month_overspent b m) (cell month TotalBudgeted [] (total_budgeted b m) ∷ cell month Buffered [] (b.buffered m) ∷ cell month ToBudget [] (to_budget b m) ∷ cell month TotalSpent [] (total_spent b m) ∷ cell month TotalLeftover [] (total_leftover b m) ∷ []) refl
      ∙ skip month TotalLeftover TotalBudgeted id [] (total_budgeted b m) (cell month Buffered [] (b.buffered m) ∷ cell month ToBudget [] (to_budget b m) ∷ cell month TotalSpent [] (total_spent b m) ∷ cell month TotalLeftover [] (total_leftover b m) ∷ []) refl
      ∙ skip month TotalLeftover Buffered id [] (b.buffered m) (cell month ToBudget [] (to_budget b m) ∷ cell month TotalSpent [] (total_spent b m) ∷ cell month TotalLeftover [] (total_leftover b m) ∷ []) refl
      ∙ skip month TotalLeftover ToBudget id [] (to_budget b m) (cell month TotalSpent [] (total_spent b m) ∷ cell month TotalLeftover [] (total_leftover b m) ∷ []) refl
      ∙ skip month TotalLeftover TotalSpent id [] (total_spent b m) (cell month TotalLeftover [] (total_leftover b m) ∷ []) refl
      ∙ look month TotalLeftover id [] (total_leftover b m) []
      ∙ ap (cond (eq_by_cmp text_cmp id []) (Some (total_leftover b m))) (refl)
      ∙ only_empty id (total_leftover b m)

  -- a cell of the whole month, or one of a group or category
  whole : (k : CellKind) (x y z : Option ℤ) → value_named (month_cells b month m) (name month k id) ≡ x → value_named (groups_cells b month m b.groups) (name month k id) ≡ y → or_else x y ≡ z → value_named (month_cells b month m ++ groups_cells b month m b.groups) (name month k id) ≡ z
  whole k x y z p q r = named-append (month_cells b month m) (groups_cells b month m b.groups) (name month k id) ∙ ap (λ o. or_else o (value_named (groups_cells b month m b.groups) (name month k id))) p ∙ ap (or_else x) q ∙ r

  no_more : (o : Option ℤ) → or_else o None ≡ o
  no_more None = refl
  no_more (Some z) = refl

  of_month_kind : (k : CellKind) → kind_number k < 9 → (o : Option ℤ) → value_named (month_cells b month m) (name month k id) ≡ o → value_named (month_cells b month m ++ groups_cells b month m b.groups) (name month k id) ≡ o
  of_month_kind k h o p = whole k o None o p (groups_low k h b.groups) (no_more o)

  of_other_kind : (k : CellKind) → 8 < kind_number k → (o : Option ℤ) → value_named (groups_cells b month m b.groups) (name month k id) ≡ o → value_named (month_cells b month m ++ groups_cells b month m b.groups) (name month k id) ≡ o
  of_other_kind k h o p = whole k None o o (none_in_month k h) p refl

  value_is : (k : CellKind) → value_named (month_cells b month m ++ groups_cells b month m b.groups) (name month k id) ≡ value_of b m k id
  value_is TotalIncome = of_month_kind TotalIncome (omega arith) _ month_0
  value_is FromLastMonth = of_month_kind FromLastMonth (omega arith) _ month_1
  value_is AvailableFunds = of_month_kind AvailableFunds (omega arith) _ month_2
  value_is LastMonthOverspent = of_month_kind LastMonthOverspent (omega arith) _ month_3
  value_is TotalBudgeted = of_month_kind TotalBudgeted (omega arith) _ month_4
  value_is Buffered = of_month_kind Buffered (omega arith) _ month_5
  value_is ToBudget = of_month_kind ToBudget (omega arith) _ month_6
  value_is TotalSpent = of_month_kind TotalSpent (omega arith) _ month_7
  value_is TotalLeftover = of_month_kind TotalLeftover (omega arith) _ month_8
  value_is GroupSum = of_other_kind GroupSum (omega arith) _ (group_sums b.groups)
  value_is GroupBudget = of_other_kind GroupBudget (omega arith) _ (group_budgets b.groups)
  value_is GroupLeftover = of_other_kind GroupLeftover (omega arith) _ (group_leftovers b.groups)
  value_is Sum = of_other_kind Sum (omega arith) _ (groups_sums b.groups)
  value_is OfBudget = of_other_kind OfBudget (omega arith) _ (groups_expenses OfBudget (omega arith) (b.budgeted id m) budgets_in b.groups)
  value_is Carryover = of_other_kind Carryover (omega arith) _ (groups_expenses Carryover (omega arith) (flag_value (b.carries id m)) flags_in b.groups)
  value_is Leftover = of_other_kind Leftover (omega arith) _ (groups_expenses Leftover (omega arith) (leftover b id m) leftovers_in b.groups)

pub sheets_tell_cells_lem : SheetsTellCells
sheets_tell_cells_lem b n = value_is b n.month (month_number n.month) n.id n.kind
