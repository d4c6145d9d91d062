-- What the statements of the migration but the copies do.
use Rattle.std.specs.Prelude.{◌≡◌, ℕ, [], ◌∷◌, Option, None, Ok}
use Rattle.sqlite_trees.specs.Tree.{Trees}
use Rattle.sqlite_schema.specs.declared.program.Program.{Program}
use Rattle.sqlite.specs.Command.TheVariants.{CreateTable, Delete}
use Rattle.sqlite.specs.Term.{col}
use Rattle.sqlite.specs.Effect.{Database}
use Rattle.sqlite.specs.Does.{Tally, Does}
use Rattle.store_tables.specs.Tables.{first_schema, moved_schema}
use Rattle.store_tables.specs.Texts.{grps_text, entries_text, empty_text, query_of}
use Rattle.store_tables.specs.Layout.{Rises}
use Rattle.store_tables.specs.Grouped.{mode}

-- both tables are new and empty, sqlite_sequence stands between them, and the rest stays
pub record HasMade (first third : Database) : Type 0 where
  pub schema : third.schema ≡ moved_schema
  pub items : third.trees 0 ≡ first.trees 0
  pub named : third.trees 2 ≡ first.trees 2
  pub groups : third.trees 4 ≡ []
  pub entries : third.trees 7 ≡ []

abbrev pub MakesTables : Type 0
MakesTables = (limit other : Option ℕ) (first second third : Database) (a b : Tally) → first.schema ≡ first_schema
    → Does limit mode [] first grps_text None CreateTable (Ok (a, second)) → Does other mode [] second entries_text None CreateTable (Ok (b, third)) → HasMade first third

abbrev pub emptying : Program
emptying = record { lets = []; body = query_of 0 [] (col 1 0 ∷ []) [] }

-- the items go, and nothing else
pub record HasEmptied (db : Trees) (after : Database) : Type 0 where
  pub schema : after.schema ≡ moved_schema
  pub items : Rises (db 0) → after.trees 0 ≡ []
  pub named : after.trees 2 ≡ db 2
  pub groups : after.trees 4 ≡ db 4
  pub entries : after.trees 7 ≡ db 7

abbrev pub EmptiesItems : Type 0
EmptiesItems = (limit : Option ℕ) (db : Trees) (tally : Tally) (after : Database)
    → Does limit mode [] (record { schema = moved_schema; trees = db }) empty_text None (Delete 0 emptying) (Ok (tally, after)) → HasEmptied db after
