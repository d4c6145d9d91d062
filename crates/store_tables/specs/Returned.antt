-- What a write with RETURNING shows and does.
use Rattle.std.specs.Prelude.{◌≡◌, ℕ, List, Some}
use Rattle.sqlite_value.specs.Order.{Row}
use Rattle.sqlite_schema.specs.declared.schema.Schema.{Schema}
use Rattle.sqlite_schema.specs.declared.command.Command.{Command}
use Rattle.sqlite_schema.specs.declared.command.Returning.{Returning}
use Rattle.sqlite.specs.Listing.{understood}
use Rattle.sqlite.specs.State.{State, Shown, Writes}
use Rattle.store_tables.specs.Texts.{command_of, statement_of, IsReturning}

abbrev pub ReturnsAs : Type 1
ReturnsAs = (sql : List ℕ) (params : Row) (old new : State) (schema : Schema) → old.now.schema ≡ schema → (command : Command) (what : Returning) → command_of (understood schema sql) ≡ command → IsReturning (understood schema sql) what
    → (rows : List Row) → Shown sql params old new rows → (count : ℕ) × (w : Writes old new (Some what) command (statement_of sql (understood schema sql)) params count) × (rows ≡ w.tally.shown)
