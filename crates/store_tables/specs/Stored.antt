-- What a store of either version holds, read from its list of tables: a crash leaves trees alone, so the list must tell.
use Rattle.std.specs.Prelude.{◌≡◌, ◌-◌, ℕ, Bool, List, [], map, find, filter, codes, Option, None, Some, option_map}
use Rattle.std.specs.Ordering.{is_eq}
use Rattle.std.specs.FinMap.{FinMap, from_entries}
use Rattle.sqlite_value.specs.declared.value.Value.TheVariants.{Text as Words}
use Rattle.sqlite_value.specs.Order.{Row, column, value_cmp}
use Rattle.sqlite_trees.specs.Tree.{Trees, rowid}
use Rattle.sqlite_trees.specs.Objects.{catalog_tree, number_in}
use Rattle.sqlite_catalog.specs.Listing.{IsSound, is_table_row}
use Rattle.store_tables.specs.Tables.{first_schema, made_schema, moved_schema}
pub use Rattle.budget_ports.specs.Contents.{Contents}
use Rattle.store_tables.specs.Named.{texts_in}
use Rattle.store_tables.specs.Joined.{Text, place_cmp, joined, item_place, body_of}

abbrev pub is_called : List ℕ → Row → Bool
is_called name r = is_eq (value_cmp (column r 2) (Words name))

-- the tree of the table that has the name, if one is listed
abbrev pub tree_called : Trees → List ℕ → Option ℕ
tree_called db name = option_map (λ r. number_in (rowid r) - 1) (find (is_called name) (filter is_table_row (db catalog_tree)))

abbrev pub rows_in : Trees → Option ℕ → List Row
rows_in db None = []
rows_in db (Some tree) = db tree

abbrev pub rows_called : Trees → List ℕ → List Row
rows_called db name = rows_in db (tree_called db name)

abbrev pub first_records : List Row → FinMap place_cmp Text
first_records items = from_entries (map (λ r. (item_place r, body_of r)) items)

-- a store that lists `entries` is read by its groups, and one that doesn't by its items
abbrev pub records_by : Trees → Option ℕ → FinMap place_cmp Text
records_by db None = first_records (rows_called db (codes "items"))
records_by db (Some entries) = joined (rows_called db (codes "grps")) (db entries)

abbrev pub contents_of : Trees → Contents
contents_of db = record { records = records_by db (tree_called db (codes "entries")); texts = texts_in (rows_called db (codes "named")) }

pub record IsRead (db : Trees) : Type 0 where
  pub first : IsSound first_schema db → contents_of db ≡ record { records = first_records (db 0); texts = texts_in (db 2) }
  pub made : IsSound made_schema db → contents_of db ≡ record { records = joined (db 0) (db 3); texts = texts_in (db 5) }
  pub moved : IsSound moved_schema db → contents_of db ≡ record { records = joined (db 4) (db 7); texts = texts_in (db 2) }
