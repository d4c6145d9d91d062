-- What a caller knows of a write with RETURNING, as `reads_as` of the kit says it of a query.
use Rattle.std.proofs.Common.{◌≡◌, ℕ, List, Some, append-nil, sym, ap, subst, subst₂, ◌∙◌}
use Rattle.sqlite_value.specs.Order.{Row}
use Rattle.sqlite_schema.specs.declared.schema.Schema.{Schema}
use Rattle.sqlite_schema.specs.declared.command.Command.{Command}
use Rattle.sqlite_schema.specs.declared.command.Returning.{Returning}
use Rattle.sqlite.specs.Listing.{understood}
use Rattle.sqlite.specs.State.{State, Shown, Writes}
use Rattle.store_tables.specs.Texts.{command_of, statement_of, IsReturning}

pub returns_as : (sql : List ℕ) (params : Row) (old new : State) (schema : Schema) → old.now.schema ≡ schema → (command : Command) (what : Returning) → command_of (understood schema sql) ≡ command → IsReturning (understood schema sql) what
    → (rows : List Row) → Shown sql params old new rows → (count : ℕ) × (w : Writes old new (Some what) command (statement_of sql (understood schema sql)) params count) × (rows ≡ w.tally.shown)
unfolding Shown
returns_as sql params old new schema has command what is shows rows h =
    let known = sym h.1.is ∙ ap (λ s. understood s sql) has in
    let bare = subst (λ r. IsReturning r what) (sym known) shows in
    let it = rw (bare.0, bare.1, append-nil params) at h.2 in
    subst₂ (λ k x. (count : ℕ) × (w : Writes old new (Some what) k x params count) × (rows ≡ w.tally.shown)) (ap command_of known ∙ is) (ap (statement_of sql) known) it
