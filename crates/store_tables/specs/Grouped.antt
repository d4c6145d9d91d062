-- What making a group does.
use Rattle.std.specs.Prelude.{◌≡◌, ℕ, ℤ, true, false, List, [], ◌∷◌, Option, Some, Ok}
use Rattle.sqlite_value.specs.declared.value.Value.TheVariants.{Null, Int, Text}
use Rattle.sqlite_trees.specs.Tree.{Trees, put_row}
use Rattle.sqlite_rules.specs.Edit.{are_fresh}
use Rattle.sqlite_schema.specs.declared.schema.Keys.TheVariants.{Enforced}
use Rattle.sqlite.specs.declared.run.Mode.{Mode}
use Rattle.sqlite.specs.Term.{lit, col}
use Rattle.sqlite.specs.Source.{Source}
use Rattle.sqlite.specs.Source.TheVariants.{Values}
use Rattle.sqlite.specs.Command.TheVariants.{Insert}
use Rattle.sqlite.specs.Effect.{Database}
use Rattle.sqlite.specs.Does.{Tally, Does}
use Rattle.store_tables.specs.Texts.{Tables, group_text, group_shown}
use Rattle.store_tables.specs.Layout.{Layout, Rises, SparesOthers}
use Rattle.store_tables.specs.Joined.{joined, AreParented}

abbrev pub mode : Mode
mode = record { keys = Enforced; in_doubt = false; may_wait = false }

abbrev pub group_source : Source
group_source = Values (lit Null ∷ lit Null ∷ col 0 0 ∷ []) 3

-- one row more in `grps`, under an id that is shown; what the two tables hold stays
pub record IsGrouped (t : Tables) (db : Trees) (name : List ℕ) (tally : Tally) (after : Database) : Type 0 where
  pub schema : after.schema ≡ t.schema
  pub id : ℤ
  pub shown : tally.shown ≡ (Int id ∷ []) ∷ []
  pub rows : after.trees t.grps_tree ≡ put_row (Int id ∷ Null ∷ Text name ∷ []) (db t.grps_tree)
  pub fresh : are_fresh (db t.grps_tree) ((Int id ∷ Null ∷ Text name ∷ []) ∷ []) ≡ true
  pub rises : Rises (after.trees t.grps_tree)
  pub entries : after.trees t.entries_tree ≡ db t.entries_tree
  pub named : after.trees t.named_tree ≡ db t.named_tree
  pub others : SparesOthers t db after.trees
  pub same : AreParented (db t.grps_tree) (db t.entries_tree) → joined (after.trees t.grps_tree) (after.trees t.entries_tree) ≡ joined (db t.grps_tree) (db t.entries_tree)

abbrev pub MakesGroups : Type 0
MakesGroups = (t : Tables) → Layout t → (limit : Option ℕ) (db : Trees) (name : List ℕ) → Rises (db t.grps_tree) → (tally : Tally) (after : Database)
    → Does limit mode (Text name ∷ []) (record { schema = t.schema; trees = db }) group_text (Some group_shown) (Insert t.grps_at group_source) (Ok (tally, after))
    → IsGrouped t db name tally after
