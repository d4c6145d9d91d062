-- The order of groups and categories on a sheet.
use Rattle.std.specs.Prelude.{Bool, not, List, [], ◌∷◌, map, filter, Option, Some, None}
use Rattle.std.specs.declared.cmp.Ordering.{Ordering}
use Rattle.std.specs.Ordering.{int_cmp, ordering_then}
use Rattle.std.specs.BTreeMap as tree
use Rattle.std.specs.BTreeMap.{BTreeMap, insert_entry}
use Rattle.std.specs.Global.{Vec}
use Rattle.std.specs.Cmp.{IsTotalOrder, on_total, int_cmp_total}
use Rattle.std.proofs.lemmas.Cmp.{then_total, nat_list_cmp_total}
use Rattle.finite_sums.specs.Maps.{Text, text_cmp}
use Rattle.book_rows.specs.declared.rows.GroupRow.{GroupRow}
use Rattle.book_rows.specs.declared.rows.CategoryRow.{CategoryRow}
use Rattle.book_rows.specs.Parts.{is_text}
use Rattle.envelope_cells.specs.declared.groups.Place.{Place}
use Rattle.envelope_cells.specs.declared.groups.BudgetGroup.{BudgetGroup}

-- by the number that the row gives, then by id
abbrev pub place_cmp : Place → Place → Ordering
place_cmp a b = ordering_then (int_cmp a.sort_order b.sort_order) (text_cmp a.id b.id)

pub places_total : IsTotalOrder place_cmp
places_total = then_total (on_total (λ p. p.sort_order) int_cmp_total) (on_total (λ p. p.id) nat_list_cmp_total)

-- each element put in its place among those that are placed already
abbrev pub placed : {V : Type 0} → List (Place × V) → List (Place × V) → List (Place × V)
placed [] done = done
placed (e ∷ es) done = placed es (insert_entry place_cmp done e.0 e.1)

-- the groups that were not deleted, each with its place and whether it takes income
abbrev pub group_places : List (Text × GroupRow) → List (Place × Bool)
group_places es = map (λ e. (record { sort_order = e.1.sort_order; id = e.0 }, e.1.is_income)) (filter (λ e. not e.1.tombstone) es)

-- the categories that were not deleted, each with its place and its group
abbrev pub category_places : List (Text × CategoryRow) → List (Place × Option Text)
category_places es = map (λ e. (record { sort_order = e.1.sort_order; id = e.0 }, e.1.cat_group)) (filter (λ e. not e.1.tombstone) es)

-- the ids of those that are of a group
abbrev pub ids_of_group : Text → List (Place × Option Text) → List Text
ids_of_group g cs = map (λ e. e.0.id) (filter (λ e. is_text g e.1) cs)

-- the groups with their categories
abbrev pub with_categories : List (Place × Option Text) → List (Place × Bool) → List BudgetGroup
with_categories cs gs = map (λ e. record { id = e.0.id; is_income = e.1; categories = ids_of_group e.0.id cs }) gs

-- the ids that a map has for a group
abbrev pub items_of : Option (Vec Text) → List Text
items_of None = []
items_of (Some v) = v.items

abbrev pub members_of : BTreeMap Text (Vec Text) → Text → List Text
members_of members g = items_of (tree.get text_cmp members g)
