-- What adding an entry to a group does.
use Rattle.std.specs.Prelude.{◌≡◌, ℕ, ℤ, List, [], ◌∷◌, Option, None, Ok}
use Rattle.sqlite_value.specs.declared.value.Value.TheVariants.{Null, Int, Text}
use Rattle.sqlite_value.specs.Order.{Row, column, bytes}
use Rattle.sqlite_trees.specs.Tree.{Trees, rowid}
use Rattle.sqlite_rules.specs.Lists.{Has}
use Rattle.sqlite_schema.specs.declared.schema.Constraint.TheVariants.{Datatype, NotNull, Unique}
use Rattle.sqlite_schema.specs.declared.command.Conflict.TheVariants.{Abort}
use Rattle.sqlite_schema.specs.declared.command.Upsert.{Upsert}
use Rattle.sqlite_schema.specs.Rules.{Keeps}
use Rattle.sqlite.specs.Term.{lit, col}
use Rattle.sqlite.specs.Source.{Source}
use Rattle.sqlite.specs.Source.TheVariants.{Values}
use Rattle.sqlite.specs.Command.TheVariants.{InsertOr}
use Rattle.sqlite.specs.Effect.{Database}
use Rattle.sqlite.specs.Does.{Tally, Does}
use Rattle.store_tables.specs.Texts.{Tables, entry_text}
use Rattle.store_tables.specs.Layout.{Layout, Rises, SparesOthers}
use Rattle.store_tables.specs.Joined.{joined, with_record, AreParented}
use Rattle.store_tables.specs.Grouped.{mode}

abbrev pub entry_source : Source
entry_source = Values (lit Null ∷ col 0 0 ∷ col 0 1 ∷ col 0 2 ∷ []) 4

abbrev pub entry_clauses : List Upsert
entry_clauses = record { target = None; update = None } ∷ []

-- what is known of the two tables between statements
pub record Stand (t : Tables) (db : Trees) : Type 0 where
  pub typed : Keeps Datatype t.schema db
  pub present : Keeps NotNull t.schema db
  pub unique : Keeps Unique t.schema db
  pub groups : Rises (db t.grps_tree)
  pub entries : Rises (db t.entries_tree)
  pub parents : AreParented (db t.grps_tree) (db t.entries_tree)

-- the tables read as they did with that one record more, where its place was free
pub record IsEntered (t : Tables) (db : Trees) (group key body : List ℕ) (after : Database) : Type 0 where
  pub schema : after.schema ≡ t.schema
  pub groups : after.trees t.grps_tree ≡ db t.grps_tree
  pub named : after.trees t.named_tree ≡ db t.named_tree
  pub others : SparesOthers t db after.trees
  pub rises : Rises (after.trees t.entries_tree)
  pub parents : AreParented (after.trees t.grps_tree) (after.trees t.entries_tree)
  pub joined_is : joined (after.trees t.grps_tree) (after.trees t.entries_tree) ≡ with_record group (joined (db t.grps_tree) (db t.entries_tree)) key body

abbrev pub MakesEntries : Type 0
MakesEntries = (t : Tables) → Layout t → (limit : Option ℕ) (db : Trees) (id : ℤ) (group key body : List ℕ) → Stand t db
    → (q : Row) → Has (db t.grps_tree) q → rowid q ≡ Int id → bytes (column q 2) ≡ group → (tally : Tally) (after : Database)
    → Does limit mode (Int id ∷ Text key ∷ Text body ∷ []) (record { schema = t.schema; trees = db }) entry_text None (InsertOr t.entries_at Abort entry_source entry_clauses) (Ok (tally, after))
    → IsEntered t db group key body after
