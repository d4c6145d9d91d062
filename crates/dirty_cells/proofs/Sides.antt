-- What a live group's record says of its expenses, and what there is of no group.
use Rattle.std.proofs.Common.{◌≡◌, Bool, true, false, not, cond, List, Option, Some, None, refl, ap, sym, ◌∙◌, true≢false}
use Rattle.std.specs.Prelude.{◌&&◌}
use Rattle.std.specs.Option.{option_map}
use Rattle.std.specs.List.{filter}
use Rattle.std.specs.FinMap.{get}
use Rattle.finite_sums.specs.Maps.{Text}
use Rattle.book_rows.specs.declared.rows.Rows.{Rows}
use Rattle.book_rows.specs.declared.rows.GroupRow.{GroupRow}
use Rattle.envelope_cells.specs.BudgetOf.{groups_of}
use Rattle.envelope_cells.specs.Places.{ids_of_group}
use Rattle.envelope_cells.specs.CellOf.{group_named}
use Rattle.envelope_cells.specs.declared.groups.BudgetGroup.{BudgetGroup}
use Rattle.dirty_cells.proofs.Listed.{all_pass, category_list}
use Rattle.dirty_cells.proofs.Groups.{named_is, side_of}

module _ (r : Rows) (id : Text) where
  abbrev ids : List Text
  ids = ids_of_group id (category_list r)

  abbrev made : Option Bool → Option BudgetGroup
  made o = option_map (λ side. record { id = id; is_income = side; categories = ids }) o

  all_is : group_named (groups_of r) id ≡ made (side_of (λ t. true) (get r.groups id))
  all_is = ap (λ l. group_named l id) (sym (all_pass (groups_of r))) ∙ named_is (λ t. true) id r

  abbrev expenses : Option BudgetGroup
  expenses = group_named (filter (λ k. not k.is_income) (groups_of r)) id

  pub no_expenses : group_named (groups_of r) id ≡ None → expenses ≡ None
  no_expenses h = named_is not id r ∙ by (get r.groups id) (sym all_is ∙ h)
    where
      dead : (income kept : Bool) → made (cond (true && kept) (Some income) None) ≡ None → made (cond (not income && kept) (Some income) None) ≡ None
      dead income true e = absurd (cc)
      dead true false e = refl
      dead false false e = refl

      by : (o : Option GroupRow) → made (side_of (λ t. true) o) ≡ None → made (side_of not o) ≡ None
      by None e = refl
      by (Some row) e = dead row.is_income (not row.tombstone) e

  module _ (k : BudgetGroup) (named : group_named (groups_of r) id ≡ Some k) where
    some_same : {X : Type 0} (x y : X) → Some x ≡ Some y → x ≡ y
    some_same x y h = cc

    no_some : {X P : Type 0} (x : X) → None ≡ Some x → P
    no_some x h = absurd (cc)

    pub id_is : k.id ≡ id
    id_is = by (side_of (λ t. true) (get r.groups id)) (sym all_is ∙ named)
      where
        by : (o : Option Bool) → made o ≡ Some k → k.id ≡ id
        by None e = no_some k e
        by (Some side) e = sym (ap (λ (x : BudgetGroup). x.id) (some_same _ k e))

    pub income_none : k.is_income ≡ true → expenses ≡ None
    income_none h = named_is not id r ∙ by (get r.groups id) (sym all_is ∙ named)
      where
        live : (income kept : Bool) → made (cond (true && kept) (Some income) None) ≡ Some k → made (cond (not income && kept) (Some income) None) ≡ None
        live true kept e = refl
        live false true e = absurd (true≢false (sym h ∙ sym (ap (λ (x : BudgetGroup). x.is_income) (some_same _ k e))))
        live false false e = no_some k e

        by : (o : Option GroupRow) → made (side_of (λ t. true) o) ≡ Some k → made (side_of not o) ≡ None
        by None e = no_some k e
        by (Some row) e = live row.is_income (not row.tombstone) e

    pub expense_same : k.is_income ≡ false → expenses ≡ Some k
    expense_same h = named_is not id r ∙ by (get r.groups id) (sym all_is ∙ named)
      where
        live : (income kept : Bool) → made (cond (true && kept) (Some income) None) ≡ Some k → made (cond (not income && kept) (Some income) None) ≡ Some k
        live true true e = absurd (true≢false (ap (λ (x : BudgetGroup). x.is_income) (some_same _ k e) ∙ h))
        live true false e = no_some k e
        live false kept e = e

        by : (o : Option GroupRow) → made (side_of (λ t. true) o) ≡ Some k → made (side_of not o) ≡ Some k
        by None e = no_some k e
        by (Some row) e = live row.is_income (not row.tombstone) e

    pub record_is : (s : List Text) → s ≡ k.categories → Some k ≡ Some (record { id = id; is_income = k.is_income; categories = s })
    record_is s e = λ i. Some (record { id = id_is i; is_income = k.is_income; categories = sym e i })
