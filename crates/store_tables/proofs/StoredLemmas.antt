-- The list of tables tells where each is.
use Rattle.std.proofs.Common.{arith, ◌≡◌, ◌+◌, ◌-◌, ℕ, Bool, List, [], ◌∷◌, find, filter, codes, Some, option_map, inl, inr, refl, ap, ◌∙◌}
use Rattle.std.specs.List.{AllZip}
use Rattle.std.specs.Ordering.{is_eq}
use Rattle.std.proofs.lemmas.Bool.{cases_Bool}
use Rattle.sqlite_value.specs.declared.value.Value.TheVariants.{Text as Words}
use Rattle.sqlite_value.specs.Order.{Row, value_cmp}
use Rattle.sqlite_value.proofs.OrderLemmas.{value_cmp-Text}
use Rattle.sqlite_trees.specs.Tree.{Trees, rowid}
use Rattle.sqlite_trees.specs.Objects.{catalog_tree, number_in}
use Rattle.sqlite_schema.specs.declared.schema.Table.{Table}
use Rattle.sqlite_schema.specs.declared.schema.Schema.{Schema}
use Rattle.sqlite_catalog.specs.Listing.{IsSound, IsTableRow, is_table_row}
use Rattle.store_tables.specs.Tables.{first_schema, made_schema, moved_schema}
use Rattle.store_tables.specs.Joined.{text_cmp}
use Rattle.store_tables.specs.Named.{texts_in}
use Rattle.store_tables.specs.Stored.{is_called, tree_called, rows_in, first_records, records_by, IsRead}

abbrev pub has_name : List ℕ → Table → Bool
has_name name t = is_eq (text_cmp t.name name)

less_one : (n : ℕ) → (n + 1) - 1 ≡ n
less_one n = omega arith

pub tree_is : (name : List ℕ) (rows : List Row) (tables : List Table) → AllZip IsTableRow rows tables
    → option_map (λ (r : Row). number_in (rowid r) - 1) (find (is_called name) rows) ≡ option_map (λ (t : Table). t.tree) (find (has_name name) tables)
tree_is name [] [] all = refl
tree_is name [] (t ∷ ts) all = absurd all
tree_is name (r ∷ rs) [] all = absurd all
tree_is name (r ∷ rs) (t ∷ ts) all =
    let same : is_called name r ≡ has_name name t = ap (λ v. is_eq (value_cmp v (Words name))) all.0.described.name_is ∙ ap is_eq (value_cmp-Text t.name name) in
    let tree : number_in (rowid r) - 1 ≡ t.tree = ap (λ v. number_in v - 1) all.0.described.id ∙ less_one t.tree in
    elim (cases_Bool (has_name name t)) [
      | inl yes_it ↦ rw (same, yes_it) (ap Some tree)
      | inr other ↦ rw (same, other) (tree_is name rs ts all.1)
    ]

listed : (schema : Schema) (db : Trees) → IsSound schema db → (name : List ℕ) → tree_called db name ≡ option_map (λ (t : Table). t.tree) (find (has_name name) schema.tables)
listed schema db sound name = tree_is name (filter is_table_row (db catalog_tree)) schema.tables sound.lists.listed.tables

pub is_read : (db : Trees) → IsRead db
is_read db = record {
  first = λ sound.
      let items = listed first_schema db sound (codes "items") in
      let none = listed first_schema db sound (codes "entries") in
      let named = listed first_schema db sound (codes "named") in
      λ i. record { records = (ap (records_by db) none ∙ ap (λ o. first_records (rows_in db o)) items) i; texts = texts_in (rows_in db (named i)) };
  made = λ sound.
      let groups = listed made_schema db sound (codes "grps") in
      let entries = listed made_schema db sound (codes "entries") in
      let named = listed made_schema db sound (codes "named") in
      λ i. record { records = (ap (records_by db) entries ∙ ap (λ o. Rattle.store_tables.specs.Joined.joined (rows_in db o) (db 3)) groups) i; texts = texts_in (rows_in db (named i)) };
  moved = λ sound.
      let groups = listed moved_schema db sound (codes "grps") in
      let entries = listed moved_schema db sound (codes "entries") in
      let named = listed moved_schema db sound (codes "named") in
      λ i. record { records = (ap (records_by db) entries ∙ ap (λ o. Rattle.store_tables.specs.Joined.joined (rows_in db o) (db 7)) groups) i; texts = texts_in (rows_in db (named i)) };
}
