use Rattle.std.proofs.Common.{◌≡◌, take, map}
use Rattle.std.specs.BTreeSet as set
use Rattle.field_values.specs.Names.{FieldNames, names_cmp}
use Rattle.edit_history.specs.Undo.{undo_of, undo_writes}
use Rattle.edit_history.proofs.Listing.{wrote}
use Rattle.edit_history.proofs.Growing.{first}
use Rattle.edit_history.proofs.undo.undo_writes.Given as goal

abbrev pub invariant-loop-before : goal.invariant-loop-before
invariant-loop-before l =
    (l.found.items ≡ undo_writes (take l.before-index l.entry))
    × ((f : FieldNames) → set.contains names_cmp l.seen f ≡ wrote first (map undo_of (take l.before-index l.entry)) f)
