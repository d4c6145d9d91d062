-- The cells of a group add up kept cells of its categories.
use Rattle.std.proofs.Common.{◌≡◌, ℕ, suc, ◌≤◌, ◌<◌, ◌^◌, Bool, true, false, cond, List, [], ◌∷◌, ◌++◌, Some, None, refl, ap, sym, ◌∙◌, arith, unsigned_abs}
use Rattle.std.specs.Prelude.{unwrap_or}
use Rattle.std.specs.Ordering.{eq_by_cmp}
use lib.IntN.{pos}
use Rattle.finite_sums.specs.Sums.{total, weight}
use Rattle.finite_sums.specs.Maps.{Text, text_cmp, is_among}
use Rattle.book_rows.specs.declared.rows.Rows.{Rows}
use Rattle.book_rows.specs.Book.{HasSizes}
use Rattle.envelope_cells.specs.Names.{Cells}
use Rattle.envelope_cells.specs.Budget.{Budget, categories, categories_of, expense, expense_groups}
use Rattle.envelope_cells.specs.BudgetOf.{budget_of}
use Rattle.envelope_cells.specs.Cells.{leftover}
use Rattle.envelope_cells.specs.CellOf.{value_of, of_group, group_named}
use Rattle.envelope_cells.specs.Parts.{weight_before}
use Rattle.envelope_cells.specs.declared.name.CellKind.TheVariants.{Sum, Budget as OfBudget, Leftover, GroupSum, GroupBudget, GroupLeftover}
use Rattle.envelope_cells.proofs.Among.{itself, or_left, or_right, total_on, in_front, in_back}
use Rattle.envelope_cells.proofs.Lists.{weight-append}
use Rattle.envelope_cells.proofs.Parts.{left_small}
use Rattle.envelope_cells.proofs.Bounds.{rows_are_small}
use Rattle.envelope_cells.specs.declared.groups.BudgetGroup.{BudgetGroup}
use Rattle.dirty_cells.specs.Right.{HasCategories, kept_value}

-- a named group is one of the groups
module _ (id : Text) (k : BudgetGroup) where
  inside : (gs : List BudgetGroup) → group_named gs id ≡ Some k → (c : Text) → is_among text_cmp k.categories c ≡ true → is_among text_cmp (categories_of gs) c ≡ true
  inside [] h c m = absurd (cc)
  inside (g ∷ gs) h c m = by (eq_by_cmp text_cmp id g.id) h (λ r. inside gs r c m)
    where
      by : (t : Bool) → cond t (Some g) (group_named gs id) ≡ Some k → (group_named gs id ≡ Some k → is_among text_cmp (categories_of gs) c ≡ true) → is_among text_cmp (g.categories ++ categories_of gs) c ≡ true
      by true e rest = let same : g ≡ k = cc in in_front g.categories (categories_of gs) c (ap (λ (x : BudgetGroup). is_among text_cmp x.categories c) same ∙ m)
      by false e rest = in_back g.categories (categories_of gs) c (rest e)

  lighter : (w : Text → ℕ) (gs : List BudgetGroup) → group_named gs id ≡ Some k → weight w k.categories ≤ weight w (categories_of gs)
  lighter w [] h = absurd (cc)
  lighter w (g ∷ gs) h = by (eq_by_cmp text_cmp id g.id) h (lighter w gs)
    where
      by : (t : Bool) → cond t (Some g) (group_named gs id) ≡ Some k → (group_named gs id ≡ Some k → weight w k.categories ≤ weight w (categories_of gs)) → weight w k.categories ≤ weight w (g.categories ++ categories_of gs)
      by true e rest = let same : g ≡ k = cc in let heavy : weight w g.categories ≡ weight w k.categories = ap (λ (x : BudgetGroup). weight w x.categories) same in omega (arith, weight-append w g.categories (categories_of gs), heavy)
      by false e rest = omega (arith, weight-append w g.categories (categories_of gs), rest e)

weight_on : (f g : Text → ℕ) (xs : List Text) → ((q : Text) → is_among text_cmp xs q ≡ true → f q ≤ g q) → weight f xs ≤ weight g xs
weight_on f g [] h = omega arith
weight_on f g (x ∷ xs) h = omega (arith, h x (or_left _ (is_among text_cmp xs x) (itself x)), weight_on f g xs (λ q k. h q (or_right (eq_by_cmp text_cmp q x) _ k)))

module _ (cells : Cells) (b : Budget) (n : ℕ) (has : HasCategories cells b n) where
  kept_sum : (c : Text) → is_among text_cmp (categories b) c ≡ true → kept_value cells n Sum c ≡ b.category_sum c n
  kept_sum c h = ap (λ o. unwrap_or o (pos 0)) (has.each Sum c refl ∙ ap (λ t. cond t (Some (b.category_sum c n)) None) h)

  kept_budget : (c : Text) → is_among text_cmp (expense b) c ≡ true → kept_value cells n OfBudget c ≡ b.budgeted c n
  kept_budget c h = ap (λ o. unwrap_or o (pos 0)) (has.each OfBudget c refl ∙ ap (λ t. cond t (Some (b.budgeted c n)) None) h)

  kept_leftover : (c : Text) → is_among text_cmp (expense b) c ≡ true → kept_value cells n Leftover c ≡ leftover b c n
  kept_leftover c h = ap (λ o. unwrap_or o (pos 0)) (has.each Leftover c refl ∙ ap (λ t. cond t (Some (leftover b c n)) None) h)

  module _ (id : Text) (k : BudgetGroup) where
    pub group_sum : group_named b.groups id ≡ Some k → Some (total (kept_value cells n Sum) k.categories) ≡ value_of b n GroupSum id
    group_sum named = ap Some (total_on (kept_value cells n Sum) (λ c. b.category_sum c n) k.categories (λ c m. kept_sum c (inside id k b.groups named c m))) ∙ ap (of_group (λ c. b.category_sum c n)) (sym named)

    pub group_budget : group_named (expense_groups b) id ≡ Some k → Some (total (kept_value cells n OfBudget) k.categories) ≡ value_of b n GroupBudget id
    group_budget named = ap Some (total_on (kept_value cells n OfBudget) (λ c. b.budgeted c n) k.categories (λ c m. kept_budget c (inside id k (expense_groups b) named c m))) ∙ ap (of_group (λ c. b.budgeted c n)) (sym named)

    pub group_leftover : group_named (expense_groups b) id ≡ Some k → Some (total (kept_value cells n Leftover) k.categories) ≡ value_of b n GroupLeftover id
    group_leftover named = ap Some (total_on (kept_value cells n Leftover) (λ c. leftover b c n) k.categories (λ c m. kept_leftover c (inside id k (expense_groups b) named c m))) ∙ ap (of_group (λ c. leftover b c n)) (sym named)

    -- ---- and they are small
    module _ (small : weight (λ c. weight_before b c (suc n)) (categories b) ≤ 2 ^ 118) (named : group_named b.groups id ≡ Some k) where
      members_small : weight (λ c. weight_before b c (suc n)) k.categories ≤ 2 ^ 118
      members_small = omega (arith, lighter id k (λ c. weight_before b c (suc n)) b.groups named, small)

      pub sums_small : weight (λ c. unsigned_abs (kept_value cells n Sum c)) k.categories ≤ 2 ^ 120
      sums_small =
          let on : weight (λ c. unsigned_abs (kept_value cells n Sum c)) k.categories ≤ weight (λ c. weight_before b c (suc n)) k.categories =
          weight_on (λ c. unsigned_abs (kept_value cells n Sum c)) (λ c. weight_before b c (suc n)) k.categories (λ c m. omega (arith, ap unsigned_abs (kept_sum c (inside id k b.groups named c m)))) in
          omega (arith, on, members_small)

      module _ (spends : group_named (expense_groups b) id ≡ Some k) where
        pub budgets_small : weight (λ c. unsigned_abs (kept_value cells n OfBudget c)) k.categories ≤ 2 ^ 120
        budgets_small =
            let on : weight (λ c. unsigned_abs (kept_value cells n OfBudget c)) k.categories ≤ weight (λ c. weight_before b c (suc n)) k.categories =
            weight_on (λ c. unsigned_abs (kept_value cells n OfBudget c)) (λ c. weight_before b c (suc n)) k.categories (λ c m. omega (arith, ap unsigned_abs (kept_budget c (inside id k (expense_groups b) spends c m)))) in
            omega (arith, on, members_small)

        pub leftovers_small : weight (λ c. unsigned_abs (kept_value cells n Leftover c)) k.categories ≤ 2 ^ 120
        leftovers_small =
            let on : weight (λ c. unsigned_abs (kept_value cells n Leftover c)) k.categories ≤ weight (λ c. weight_before b c (suc n)) k.categories =
            weight_on (λ c. unsigned_abs (kept_value cells n Leftover c)) (λ c. weight_before b c (suc n)) k.categories (λ c m. omega (arith, ap unsigned_abs (kept_leftover c (inside id k (expense_groups b) spends c m)), left_small b c (suc n))) in
            omega (arith, on, members_small)

pub small_rows : (r : Rows) (n : ℕ) → n < 2760 → HasSizes r → weight (λ c. weight_before (budget_of r) c (suc n)) (categories (budget_of r)) ≤ 2 ^ 118
small_rows r n within sizes = (rows_are_small r (suc n) (omega (arith, within)) sizes).all
