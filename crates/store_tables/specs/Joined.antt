-- What the two tables hold: the entries, each with the name of its group.
use Rattle.std.specs.Prelude.{◌≡◌, List, map, true}
use Rattle.std.specs.FinMap.{FinMap, from_entries}
use Rattle.sqlite_value.specs.declared.value.Value.{Value}
use Rattle.sqlite_value.specs.Order.{Row, column, bytes}
use Rattle.sqlite_trees.specs.Tree.{has_rowid}
use Rattle.sqlite_rules.specs.Lists.{Has}
use Rattle.sqlite_rules.specs.Edit.{id_in, row_at}
use Rattle.budget_ports.specs.Contents as contents
pub use Rattle.budget_ports.specs.Contents.{Text, text_cmp, Place, place_cmp}

-- the name of the group that has this id
abbrev pub name_at : List Row → Value → Text
name_at groups id = bytes (column (row_at groups (id_in id)) 2)

abbrev pub place_in : List Row → Row → Place
place_in groups r = (name_at groups (column r 1), bytes (column r 2))

-- a row of the first version has its group's name beside its key
abbrev pub item_place : Row → Place
item_place r = (bytes (column r 1), bytes (column r 2))

abbrev pub body_of : Row → Text
body_of r = bytes (column r 3)

abbrev pub joined : List Row → List Row → FinMap place_cmp Text
joined groups entries = from_entries (map (λ r. (place_in groups r, body_of r)) entries)

-- the record of this group, key and body is added, where its place is free
abbrev pub with_record : Text → FinMap place_cmp Text → Text → Text → FinMap place_cmp Text
with_record group m key body = contents.with_record group m (record { key = key; body = body })

-- each entry has its group
abbrev pub AreParented : List Row → List Row → Type 0
AreParented groups entries = (r : Row) → Has entries r → (q : Row) × Has groups q × (has_rowid (id_in (column r 1)) q ≡ true)
