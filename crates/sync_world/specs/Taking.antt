-- What an undo and a redo take back in a world.
use Rattle.std.specs.Prelude.{◌≡◌, ℕ, ◌<◌, List, Some, Ok}
use Rattle.device_core.specs.declared.edit.Edit.{Edit}
use Rattle.device_core.specs.Device.{State}
use Rattle.device_core.specs.Undoing.{IsRestored}
use Rattle.sync_world.specs.declared.event.Event.TheVariants as events
use Rattle.sync_world.specs.declared.event.Outcome.TheVariants.{Wrote}
use Rattle.sync_world.specs.declared.event.WorldEdit.{WorldEdit}
use Rattle.sync_world.specs.declared.event.WorldEdit.TheVariants.{Line, Undo, Redo}
use Rattle.sync_world.specs.World.{WorldState, device_of, stepped}
use Rattle.sync_world.specs.Right.{IsRight}

-- the second takes back what the first wrote over, where the first had writes, and whatever happened between them that left the device as it was
abbrev pub TakesBack : WorldEdit → WorldEdit → Type 0
TakesBack first second = (nodes : List (List ℕ)) (w v x u : WorldState) (i reading later n m : ℕ) (made ids : List (List ℕ)) (before after back : State) → IsRight nodes w → 0 < n
    → device_of w.devices i ≡ Some before → stepped w (events.Edit i first reading) ≡ Ok (v, Wrote n made) → device_of v.devices i ≡ Some after
    → device_of x.devices i ≡ Some after → stepped x (events.Edit i second later) ≡ Ok (u, Wrote m ids) → device_of u.devices i ≡ Some back
    → IsRestored before after back

pub record EditsAreTakenBack : Type 0 where
  pub edits : (edit : Edit) → TakesBack (Line edit) Undo
  pub undos : TakesBack Undo Redo
  pub redos : TakesBack Redo Undo
