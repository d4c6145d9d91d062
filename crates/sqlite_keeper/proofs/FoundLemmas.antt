-- What an open finds in files has the rows of each table in order.
use Rattle.std.proofs.Common.{◌≡◌, List, [], ◌∷◌, filter, inl, inr, sym, subst}
use Rattle.std.proofs.Math.Logic.{∥∥₁_elim}
use Rattle.std.specs.List.{AllZip}
use Rattle.sqlite_wal.specs.Recovery.{Image}
use Rattle.sqlite_value.specs.Order.{Row}
use Rattle.sqlite_trees.specs.Tree.{Trees}
use Rattle.sqlite_trees.specs.View.{IsOrdered}
use Rattle.sqlite_trees.specs.Props.{IsShaped-prop}
use Rattle.sqlite_trees.specs.Objects.{catalog_tree, IsListed}
use Rattle.sqlite_trees.specs.declared.store.Shape.TheVariants as shape
use Rattle.sqlite_store.specs.Listing.{all_shapes, all_reals}
use Rattle.sqlite_store.specs.Listed.{catalog_rows, is_listed}
use Rattle.sqlite_store.proofs.ListingLemmas.{all_ordered}
use Rattle.sqlite_schema.specs.declared.schema.Schema.{Schema}
use Rattle.sqlite_schema.specs.declared.schema.Table.{Table}
use Rattle.sqlite_rules.specs.Lists.{Has}
use Rattle.sqlite_catalog.specs.Listing.{AreListed, IsTableRow, is_table_row}
use Rattle.sqlite.specs.Effect.{Database, IsDatabase}
use Rattle.sqlite.specs.Files.{AreFoundIn}
use Rattle.sqlite_keeper.specs.Contents.{Rises}
use Rattle.sqlite_keeper.proofs.OrderLemmas.{in_shape}

-- no row lists no table
none_listed : (objects : List Row) (tables : List Table) → objects ≡ [] → AllZip IsTableRow (filter is_table_row objects) tables → (t : Table) → Has tables t → ⊥
none_listed objects tables none are t = go tables (subst (λ rows. AllZip IsTableRow (filter is_table_row rows) tables) none are)
  where
    go : (ts : List Table) → AllZip IsTableRow [] ts → Has ts t → ⊥
    go [] are has = has
    go (u ∷ ts) are has = are

-- the trees of sound files are in the order of their shapes, and where there was no database no table is listed
found_rise : (image : Image) (db : Trees) (schema : Schema) → AreFoundIn image db → AreListed (db catalog_tree) schema → (t : Table) → Has schema.tables t → Rises (db t.tree)
found_rise image db schema (inl (size, pages, wanted, adopts, ours, is)) are t has =
    let listed = subst (λ rows. IsListed rows (all_shapes wanted) (all_reals wanted)) (sym (catalog_rows size wanted _)) (is_listed wanted) in
    let it = ∥∥₁_elim ours (IsShaped-prop shape.Table (db t.tree)) (λ o. in_shape db (all_shapes wanted) (all_reals wanted) schema
    (subst (λ (d : Trees). IsListed (d catalog_tree) (all_shapes wanted) (all_reals wanted)) (sym is) listed)
    (subst (IsOrdered (all_shapes wanted)) (sym is) (all_ordered o.file.db _)) are t has) in
    record { up = it.0; ints = it.1 }
found_rise image db schema (inr (nothing, empty)) are t has = absurd (none_listed (db catalog_tree) schema.tables empty.1 are.tables t has)

-- so has what a connection over them shows with nothing pending
pub opened_rise : (image : Image) (now committed : Database) → AreFoundIn image committed.trees → now ≡ committed → IsDatabase now → (t : Table) → Has now.schema.tables t → Rises (now.trees t.tree)
opened_rise image now committed found settled live t has =
    let are = subst (λ (d : Database). AreListed (d.trees catalog_tree) now.schema) settled live.lists.listed in
    subst (λ (d : Database). Rises (d.trees t.tree)) (sym settled) (found_rise image committed.trees now.schema found are t has)
