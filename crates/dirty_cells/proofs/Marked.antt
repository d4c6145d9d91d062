-- What is said of categories and groups that are not marked stays.
use Rattle.std.proofs.Common.{◌≡◌, Bool, true, false, not, List, Option, Some, None, refl, ap, sym, ◌∙◌, inl, inr, true≢false}
use Rattle.std.specs.Prelude.{◌&&◌, ◌⊎◌}
use Rattle.std.specs.Option.{option_map}
use Rattle.std.specs.List.{filter}
use Rattle.std.specs.FinMap.{get}
use Rattle.finite_sums.specs.Maps.{Text, text_cmp, is_among, some_and, value_or_zero}
use Rattle.book_rows.specs.declared.rows.Rows.{Rows}
use Rattle.book_rows.specs.declared.rows.CategoryRow.{CategoryRow}
use Rattle.book_rows.specs.declared.rows.BudgetRow.{BudgetRow}
use Rattle.book_rows.specs.declared.rows.GroupRow.{GroupRow}
use Rattle.book_rows.specs.Live.{is_live_category, is_expense_category, is_live_category_row, has_income_group}
use Rattle.book_rows.specs.Parts.{is_text}
use Rattle.envelope_cells.specs.Ids.{month_at}
use Rattle.envelope_cells.specs.BudgetOf.{budget_of, groups_of}
use Rattle.envelope_cells.specs.Places.{ids_of_group}
use Rattle.envelope_cells.specs.CellOf.{group_named}
use Rattle.envelope_cells.specs.Laws.{SayTheSame}
use Rattle.envelope_cells.specs.declared.groups.BudgetGroup.{BudgetGroup}
use Rattle.dirty_cells.specs.Grid.{SameBut, Marks}
use Rattle.dirty_cells.proofs.Listed.{live_ones_are_listed_lem, all_pass, category_list, category_found}
use Rattle.dirty_cells.proofs.Groups.{SameMembers, group_stays, named_is, side_of}

module _ (r s : Rows) (cs gs : List Text) (marks : Marks r s cs gs) where
  -- ---- categories
  said_same : (c : Text) → is_among text_cmp cs c ≡ false → SayTheSame (budget_of r) (budget_of s) c
  said_same c off = record {
    category_sum = λ m. marks.sums c (month_at m) off;
    budgeted = λ m. ap (value_or_zero (λ (b : BudgetRow). b.amount)) (marks.budgets c (month_at m) off);
    carries = λ m. ap (some_and (λ (b : BudgetRow). b.carryover)) (marks.budgets c (month_at m) off);
  }

  row_same : (p : Rows → CategoryRow → Bool) (c : Text) → is_among text_cmp cs c ≡ false → ((row : CategoryRow) → get r.categories c ≡ Some row → p r row ≡ p s row) → some_and (p r) (get r.categories c) ≡ some_and (p s) (get s.categories c)
  row_same p c off h = by (get r.categories c) refl ∙ ap (some_and (p s)) (marks.categories c off)
    where
      by : (o : Option CategoryRow) → get r.categories c ≡ o → some_and (p r) o ≡ some_and (p s) o
      by None e = refl
      by (Some row) e = h row e

  owner_same : {A : Type 0} (f : Option GroupRow → A) (z : A) (row : CategoryRow) (c : Text) → is_among text_cmp cs c ≡ false → get r.categories c ≡ Some row
      → elim row.cat_group as (λ _. A) [ None ↦ z | Some g ↦ f (get r.groups g) ] ≡ elim row.cat_group as (λ _. A) [ None ↦ z | Some g ↦ f (get s.groups g) ]
  owner_same {A} f z row c off e = by row.cat_group refl
    where
      by : (o : Option Text) → row.cat_group ≡ o → elim o as (λ _. A) [ None ↦ z | Some g ↦ f (get r.groups g) ] ≡ elim o as (λ _. A) [ None ↦ z | Some g ↦ f (get s.groups g) ]
      by None k = refl
      by (Some g) k = ap f (marks.owners c row g off e k)

  some_elim : {A : Type 0} (p : A → Bool) (o : Option A) → some_and p o ≡ elim o as (λ _. Bool) [ None ↦ false | Some g ↦ p g ]
  some_elim p None = refl
  some_elim p (Some g) = refl

  live_by : (f : Option GroupRow → Bool) (row : CategoryRow) (c : Text) → is_among text_cmp cs c ≡ false → get r.categories c ≡ Some row → some_and (λ g. f (get r.groups g)) row.cat_group ≡ some_and (λ g. f (get s.groups g)) row.cat_group
  live_by f row c off e = some_elim (λ g. f (get r.groups g)) row.cat_group ∙ owner_same f false row c off e ∙ sym (some_elim (λ g. f (get s.groups g)) row.cat_group)

  live_same : (c : Text) → is_among text_cmp cs c ≡ false → is_live_category r c ≡ is_live_category s c
  live_same c off = row_same is_live_category_row c off (λ row e. ap (λ b. not row.tombstone && b) (live_by (some_and (λ g. not g.tombstone)) row c off e))

  expense_same : (c : Text) → is_among text_cmp cs c ≡ false → is_expense_category r c ≡ is_expense_category s c
  expense_same c off = row_same (λ rows row. is_live_category_row rows row && not (has_income_group rows row)) c off (λ row e.
      ap (λ b. (not row.tombstone && b) && not (has_income_group r row)) (live_by (some_and (λ g. not g.tombstone)) row c off e)
      ∙ ap (λ b. is_live_category_row s row && not b) (live_by (some_and (λ g. g.is_income)) row c off e))

  -- ---- groups
  members_same : (g : Text) → is_among text_cmp gs g ≡ false → SameMembers r s g
  members_same g off = record { each = λ q. by q (is_among text_cmp cs q) refl }
    where
      by : (q : Text) (b : Bool) → is_among text_cmp cs q ≡ b → (get r.categories q ≡ get s.categories q) ⊎ ((some_and (λ c. is_text g c.cat_group) (get r.categories q) ≡ false) × (some_and (λ c. is_text g c.cat_group) (get s.categories q) ≡ false))
      by q true e = inr (marks.theirs g q off e)
      by q false e = inl (marks.categories q e)

  group_same : (u : Bool → Bool) (g : Text) → is_among text_cmp gs g ≡ false → group_named (filter (λ k. u k.is_income) (groups_of r)) g ≡ group_named (filter (λ k. u k.is_income) (groups_of s)) g
  group_same u g off = group_stays u r s g (marks.groups g off) (members_same g off)

  ids_in : (g : Text) (o : Option Bool) (ids : List Text) (k : BudgetGroup) → option_map (λ side. record { id = g; is_income = side; categories = ids }) o ≡ Some k → ids ≡ k.categories
  ids_in g None ids k h = absurd (cc)
  ids_in g (Some side) ids k h = cc

  member_and : (g : Text) (o : Option CategoryRow) → some_and (λ c. is_text g c.cat_group && not c.tombstone) o ≡ true → some_and (λ c. is_text g c.cat_group) o ≡ true
  member_and g None h = h
  member_and g (Some c) h = by (is_text g c.cat_group) h
    where
      by : (b : Bool) → (b && not c.tombstone) ≡ true → b ≡ true
      by true h = refl
      by false h = h

  unmarked : (u : Bool → Bool) (g : Text) (k : BudgetGroup) (c : Text) → is_among text_cmp gs g ≡ false → group_named (filter (λ k. u k.is_income) (groups_of s)) g ≡ Some k → is_among text_cmp k.categories c ≡ true → is_among text_cmp cs c ≡ false
  unmarked u g k c off named inside = by (is_among text_cmp cs c) refl
    where
      in_group : some_and (λ c. is_text g c.cat_group) (get s.categories c) ≡ true
      in_group = member_and g (get s.categories c) (sym (category_found s g c) ∙ ap (λ ids. is_among text_cmp ids c) (ids_in g (side_of u (get s.groups g)) (ids_of_group g (category_list s)) k (sym (named_is u g s) ∙ named)) ∙ inside)

      by : (b : Bool) → is_among text_cmp cs c ≡ b → b ≡ false
      by true e = absurd (true≢false (sym in_group ∙ (marks.theirs g c off e).1))
      by false e = refl

  every : (rows : Rows) → filter (λ (k : BudgetGroup). true) (groups_of rows) ≡ groups_of rows
  every rows = all_pass (groups_of rows)

  pub same_but : SameBut (budget_of r) (budget_of s) cs gs
  same_but = record {
    said = said_same;
    listed = λ c off. (live_ones_are_listed_lem r).category c ∙ live_same c off ∙ sym ((live_ones_are_listed_lem s).category c);
    spent = λ c off. (live_ones_are_listed_lem r).expense c ∙ expense_same c off ∙ sym ((live_ones_are_listed_lem s).expense c);
    group = λ g off. ap (λ l. group_named l g) (sym (every r)) ∙ group_same (λ b. true) g off ∙ ap (λ l. group_named l g) (every s);
    expenses = λ g off. group_same not g off;
    members = λ g k c off named inside. unmarked (λ b. true) g k c off (ap (λ l. group_named l g) (every s) ∙ named) inside;
    spenders = λ g k c off named inside. unmarked not g k c off named inside;
  }
