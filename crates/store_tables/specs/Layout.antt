-- Where the two tables stand in a schema, as far as a proof needs it: a new store and a migrated one are two instances.
use Rattle.std.specs.Prelude.{◌≡◌, ◌≢◌, ◌+◌, ℕ, Some, List, [], ◌∷◌, slice_get, IsTrue, None, true, false, ◌&&◌, ◌||◌}
use Rattle.std.specs.List.{AllByRecursion}
use Rattle.sqlite_value.specs.Order.{Row, column}
use Rattle.sqlite_value.specs.declared.keys.Collation.TheVariants.{Binary}
use Rattle.sqlite_sql.specs.Ops.{binary, is_true}
use Rattle.sqlite_sql.specs.declared.ops.BinaryOp.TheVariants.{Compare}
use Rattle.sqlite_sql.specs.declared.ops.CompareOp.TheVariants.{Eq}
use Rattle.sqlite_catalog.specs.Listing.{automatic}
use Rattle.sqlite_schema.specs.Rules.{Keeps, guards, parent_key}
use Rattle.sqlite_schema.specs.declared.schema.Constraint.TheVariants.{Datatype, NotNull, Unique}
use Rattle.sqlite.specs.Schema.{Schema}
use Rattle.sqlite.specs.Table.{Table}
use Rattle.sqlite_value.specs.declared.keys.Order.{Order}
use Rattle.sqlite_value.specs.Keys.{first_key}
use Rattle.sqlite_rules.specs.Keys.{conflicts}
use Rattle.sqlite_trees.specs.Tree.{Trees, IsTable, rowid}
use Rattle.sqlite_sql.specs.Program.{overlay}
use Rattle.sqlite_trees.specs.View.{is_int}
use Rattle.sqlite_rules.specs.Lists.{Has}
use Rattle.sqlite_rules.specs.Action.{works}
use Rattle.sqlite_schema.specs.declared.schema.Keys.TheVariants.{Enforced}
use Rattle.sqlite.specs.Rows.{sequence}
use Rattle.store_tables.specs.Tables.{grps, counters, entries, named, to_grps}
use Rattle.store_tables.specs.Texts.{Tables}

pub record Layout (t : Tables) : Type 0 where
  pub grps_there : slice_get t.schema.tables t.grps_at ≡ Some (grps t.grps_tree)
  pub entries_there : slice_get t.schema.tables t.entries_at ≡ Some (entries t.entries_tree)
  pub counts_in : sequence t.schema ≡ Some (counters (t.grps_tree + 2))
  -- where one row is put in, no foreign key acts
  pub unreferred : (tree : ℕ) (olds : List Row) (new : Row) → works t.schema Enforced 0 tree olds (new ∷ []) ≡ []
  pub has_grps : Has t.schema.tables (grps t.grps_tree)
  pub has_entries : Has t.schema.tables (entries t.entries_tree)
  pub has_named : Has t.schema.tables (named t.named_tree)
  pub apart : t.entries_tree ≡ t.grps_tree + 3
  pub named_apart : (t.named_tree ≢ t.grps_tree) × (t.named_tree ≢ t.grps_tree + 2) × (t.named_tree ≢ t.entries_tree)
  -- the indexes of their keys
  pub grps_indexed : Has t.schema.indexes (automatic (grps t.grps_tree) 0 (2 ∷ []) (t.grps_tree + 1))
  pub grps_guarded : guards (automatic (grps t.grps_tree) 0 (2 ∷ []) (t.grps_tree + 1)) (grps t.grps_tree) ≡ true
  pub entries_indexed : Has t.schema.indexes (automatic (entries t.entries_tree) 0 (1 ∷ 2 ∷ []) (t.entries_tree + 1))
  pub entries_guarded : guards (automatic (entries t.entries_tree) 0 (1 ∷ 2 ∷ []) (t.entries_tree + 1)) (entries t.entries_tree) ≡ true
  -- a query reads them by their trees
  pub reads_groups : (db : Trees) → overlay db [] t.grps_tree ≡ db t.grps_tree
  pub reads_entries : (db : Trees) → overlay db [] t.entries_tree ≡ db t.entries_tree
  -- an entry refers to a group by its rowid
  pub parent_is : (o : Order) × (parent_key t.schema.tables to_grps ≡ Some (t.grps_tree, 0 ∷ [], o)) × ((first_key o).collation ≡ Binary)
  -- which entry is in the way of a new one
  pub conflict_is : (new r : Row) → conflicts None t.schema.indexes (entries t.entries_tree) new r
      ≡ ((is_true (binary (Compare Eq Binary) (column r 0) (column new 0)) && true)
      || ((is_true (binary (Compare Eq Binary) (column r 1) (column new 1)) && (is_true (binary (Compare Eq Binary) (column r 2) (column new 2)) && true)) || false))

-- the rowids rise, and are integers
pub record Rises (rows : List Row) : Type 0 where
  pub up : IsTable rows
  pub ints : AllByRecursion (λ r. IsTrue (is_int (rowid r))) rows

-- the rows keep the types of their columns, and the keys
pub record Rules (schema : Schema) (db : Trees) : Type 0 where
  pub typed : Keeps Datatype schema db
  pub present : Keeps NotNull schema db
  pub unique : Keeps Unique schema db

-- the tables but those of the groups, of their ids and of the entries have the rows that they had
abbrev pub SparesOthers : Tables → Trees → Trees → Type 0
SparesOthers t db after = (u : Table) → Has t.schema.tables u → u.tree ≢ t.grps_tree → u.tree ≢ t.grps_tree + 2 → u.tree ≢ t.entries_tree → after u.tree ≡ db u.tree
