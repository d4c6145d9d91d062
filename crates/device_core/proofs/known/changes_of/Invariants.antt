use Rattle.std.proofs.Common.{◌≡◌, ◌++◌, drop}
use Rattle.std.specs.Prelude.{flat_map}
use Rattle.device_core.specs.Changes.{change_of}
use Rattle.device_core.proofs.known.changes_of.Given as goal

abbrev pub invariant-loop-field : goal.invariant-loop-field
invariant-loop-field l = l.changes.items ++ flat_map (change_of l.log.messages) (drop l.field-index l.fields) ≡ flat_map (change_of l.log.messages) l.fields
