-- The totals of a whole month add up kept cells of groups.
use Rattle.std.proofs.Common.{◌≡◌, ℕ, Bool, true, false, not, cond, List, [], ◌∷◌, map, Option, Some, None, refl, ap, sym, ◌∙◌, true≢false}
use Rattle.std.specs.Prelude.{◌&&◌, ◌||◌, unwrap_or}
use Rattle.std.specs.List.{filter, list_any}
use Rattle.std.specs.Ordering.{eq_by_cmp}
use lib.IntN.{ℤ, pos, ◌+ℤ◌}
use Rattle.std.specs.FinMap.{get}
use Rattle.finite_sums.specs.Sums.{total}
use Rattle.finite_sums.specs.Maps.{Text, text_cmp, is_among, some_and}
use Rattle.book_rows.specs.declared.rows.Rows.{Rows}
use Rattle.book_rows.specs.declared.rows.GroupRow.{GroupRow}
use Rattle.envelope_cells.specs.Names.{Cells}
use Rattle.envelope_cells.specs.Budget.{Budget, expense_groups}
use Rattle.envelope_cells.specs.BudgetOf.{budget_of, groups_of}
use Rattle.envelope_cells.specs.Places.{ids_of_group, with_categories}
use Rattle.envelope_cells.specs.Cells.{leftover, total_income, total_spent, all_budgeted, total_leftover}
use Rattle.envelope_cells.specs.CellOf.{value_of, of_group, group_named}
use Rattle.envelope_cells.specs.declared.name.CellKind.{CellKind}
use Rattle.envelope_cells.specs.declared.name.CellKind.TheVariants.{GroupSum, GroupBudget, GroupLeftover}
use Rattle.envelope_cells.proofs.Among.{total_on}
use Rattle.envelope_cells.specs.declared.groups.BudgetGroup.{BudgetGroup}
use Rattle.envelope_cells.specs.declared.groups.Place.{Place}
use Rattle.dirty_cells.specs.Right.{cell_at, kept_value}
use Rattle.dirty_cells.proofs.Listed.{group_found, group_list, category_list, all_pass}
use Rattle.dirty_cells.proofs.Groups.{named_is, side_of, group_by}
use Rattle.dirty_cells.proofs.Totals.{income_of_groups, spent_of_groups, budgeted_of_groups, leftover_of_groups}

module _ (rows : Rows) (u : Bool → Bool) where
  abbrev pub cs : List (Place × Option Text)
  cs = category_list rows

  abbrev pub of_side : List (Place × Bool) → List BudgetGroup
  of_side gs = filter (λ k. u k.is_income) (with_categories cs gs)

  abbrev pub ids : List Text
  ids = map (λ (g : BudgetGroup). g.id) (filter (λ k. u k.is_income) (groups_of rows))

  by_ids : (f : Text → ℤ) (gs : List (Place × Bool)) → total (λ g. total f g.categories) (of_side gs) ≡ total (λ id. total f (ids_of_group id cs)) (map (λ (g : BudgetGroup). g.id) (of_side gs))
  by_ids f [] = refl
  by_ids f (e ∷ gs) = by (u e.1) (by_ids f gs)
    where
      by : (t : Bool) → total (λ g. total f g.categories) (of_side gs) ≡ total (λ id. total f (ids_of_group id cs)) (map (λ (g : BudgetGroup). g.id) (of_side gs))
          → total (λ (g : BudgetGroup). total f g.categories) (cond t (record { id = e.0.id; is_income = e.1; categories = ids_of_group e.0.id cs } ∷ of_side gs) (of_side gs))
          ≡ total (λ id. total f (ids_of_group id cs)) (map (λ (g : BudgetGroup). g.id) (cond t (record { id = e.0.id; is_income = e.1; categories = ids_of_group e.0.id cs } ∷ of_side gs) (of_side gs)))
      by true h = ap (λ z. total f (ids_of_group e.0.id cs) +ℤ z) h
      by false h = h

  among_ids : (q : Text) (gs : List (Place × Bool)) → is_among text_cmp (map (λ (g : BudgetGroup). g.id) (of_side gs)) q ≡ list_any (λ e. eq_by_cmp text_cmp q e.0.id && u e.1) gs
  among_ids q [] = refl
  among_ids q (e ∷ gs) = by (u e.1) (among_ids q gs)
    where
      and_true : (a : Bool) → (a && true) ≡ a
      and_true true = refl
      and_true false = refl

      and_false : (a : Bool) → (a && false) ≡ false
      and_false true = refl
      and_false false = refl

      by : (t : Bool) → is_among text_cmp (map (λ (g : BudgetGroup). g.id) (of_side gs)) q ≡ list_any (λ e. eq_by_cmp text_cmp q e.0.id && u e.1) gs
          → is_among text_cmp (map (λ (g : BudgetGroup). g.id) (cond t (record { id = e.0.id; is_income = e.1; categories = ids_of_group e.0.id cs } ∷ of_side gs) (of_side gs))) q ≡ ((eq_by_cmp text_cmp q e.0.id && t) || list_any (λ e. eq_by_cmp text_cmp q e.0.id && u e.1) gs)
      by true h = ap (λ t. eq_by_cmp text_cmp q e.0.id || t) h ∙ ap (λ t. t || list_any (λ e. eq_by_cmp text_cmp q e.0.id && u e.1) gs) (sym (and_true (eq_by_cmp text_cmp q e.0.id)))
      by false h = h ∙ ap (λ t. t || list_any (λ e. eq_by_cmp text_cmp q e.0.id && u e.1) gs) (sym (and_false (eq_by_cmp text_cmp q e.0.id)))

  -- a listed group has a row on its side that was not deleted
  listed : (q : Text) → is_among text_cmp ids q ≡ some_and (λ (g : GroupRow). u g.is_income && not g.tombstone) (get rows.groups q)
  listed q = among_ids q (group_list rows) ∙ group_found rows u q

-- what the named group adds up, where it is listed
named_total : (rows : Rows) (u : Bool → Bool) (f : Text → ℤ) (id : Text) → some_and (λ (g : GroupRow). u g.is_income && not g.tombstone) (get rows.groups id) ≡ true
    → of_group f (group_named (filter (λ k. u k.is_income) (groups_of rows)) id) ≡ Some (total f (ids_of_group id (category_list rows)))
named_total rows u f id h = ap (of_group f) (named_is u id rows) ∙ by (get rows.groups id) h
  where
    by : (o : Option GroupRow) → some_and (λ (g : GroupRow). u g.is_income && not g.tombstone) o ≡ true → of_group f (group_by u id rows (side_of u o) (ids_of_group id (category_list rows))) ≡ Some (total f (ids_of_group id (category_list rows)))
    by None k = absurd (true≢false (sym k))
    by (Some row) k = ap (λ t. of_group f (group_by u id rows (cond t (Some row.is_income) None) (ids_of_group id (category_list rows)))) k

whatever_side : (u : Bool → Bool) (o : Option GroupRow) → some_and (λ (g : GroupRow). u g.is_income && not g.tombstone) o ≡ true → some_and (λ (g : GroupRow). not g.tombstone) o ≡ true
whatever_side u None h = h
whatever_side u (Some g) h = by (u g.is_income) h
  where
    by : (t : Bool) → (t && not g.tombstone) ≡ true → not g.tombstone ≡ true
    by true k = k
    by false k = absurd (true≢false (sym k))

module _ (rows : Rows) (cells : Cells) (n : ℕ) where
  abbrev b : Budget
  b = budget_of rows

  -- where the cells of all groups are right
  module _ (sums : (id : Text) → get cells (cell_at n GroupSum id) ≡ value_of b n GroupSum id) (u : Bool → Bool) where
    pub kept : (id : Text) → is_among text_cmp (ids rows u) id ≡ true → kept_value cells n GroupSum id ≡ total (λ c. b.category_sum c n) (ids_of_group id (category_list rows))
    kept id h =
        ap (λ o. unwrap_or o (pos 0)) (sums id
        ∙ ap (λ gs. of_group (λ c. b.category_sum c n) (group_named gs id)) (sym (all_pass (groups_of rows)))
        ∙ named_total rows (λ t. true) (λ c. b.category_sum c n) id (whatever_side u (get rows.groups id) (sym (listed rows u id) ∙ h)))

    pub sums_total : total (kept_value cells n GroupSum) (ids rows u) ≡ total (λ g. total (λ c. b.category_sum c n) g.categories) (filter (λ k. u k.is_income) (groups_of rows))
    sums_total = total_on (kept_value cells n GroupSum) (λ id. total (λ c. b.category_sum c n) (ids_of_group id (category_list rows))) (ids rows u) kept ∙ sym (by_ids rows u (λ c. b.category_sum c n) (group_list rows))

  module _ (f : Text → ℤ) (kind : CellKind) (right : (id : Text) → get cells (cell_at n kind id) ≡ of_group f (group_named (expense_groups b) id)) where
    pub kept_expense : (id : Text) → is_among text_cmp (ids rows not) id ≡ true → kept_value cells n kind id ≡ total f (ids_of_group id (category_list rows))
    kept_expense id h = ap (λ o. unwrap_or o (pos 0)) (right id ∙ named_total rows not f id (sym (listed rows not id) ∙ h))

    pub expense_total : total (kept_value cells n kind) (ids rows not) ≡ total (λ g. total f g.categories) (expense_groups b)
    expense_total =
        total_on (kept_value cells n kind) (λ id. total f (ids_of_group id (category_list rows))) (ids rows not) kept_expense
        ∙ sym (by_ids rows not f (group_list rows))

  module _ (sums : (id : Text) → get cells (cell_at n GroupSum id) ≡ value_of b n GroupSum id) where
    pub income_from_groups : total (kept_value cells n GroupSum) (ids rows (λ t. t)) ≡ total_income b n
    income_from_groups = sums_total sums (λ t. t) ∙ sym (income_of_groups b n)

    pub spent_from_groups : total (kept_value cells n GroupSum) (ids rows not) ≡ total_spent b n
    spent_from_groups = sums_total sums not ∙ sym (spent_of_groups b n)

  pub budgeted_from_groups : ((id : Text) → get cells (cell_at n GroupBudget id) ≡ value_of b n GroupBudget id) → total (kept_value cells n GroupBudget) (ids rows not) ≡ all_budgeted b n
  budgeted_from_groups right = expense_total (λ c. b.budgeted c n) GroupBudget right ∙ sym (budgeted_of_groups b n)

  pub leftover_from_groups : ((id : Text) → get cells (cell_at n GroupLeftover id) ≡ value_of b n GroupLeftover id) → total (kept_value cells n GroupLeftover) (ids rows not) ≡ total_leftover b n
  leftover_from_groups right = expense_total (λ c. leftover b c n) GroupLeftover right ∙ sym (leftover_of_groups b n)
