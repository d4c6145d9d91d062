use Rattle.std.proofs.Common.{◌≡◌, take, map}
use Rattle.std.specs.List.{list_any}
use Rattle.std.specs.BTreeSet as set
use Rattle.field_values.specs.Names.{FieldNames, names_eq, names_cmp}
use Rattle.field_merge.specs.declared.message.Message.{Message}
use Rattle.field_merge.specs.Log.{value_in}
use Rattle.edit_history.specs.declared.before.Before.{Before}
use Rattle.edit_history.specs.Undo.{entry_over}
use Rattle.edit_history.proofs.before.entry_over.Given as goal

abbrev pub invariant-loop-message : goal.invariant-loop-message
invariant-loop-message l =
    (l.found.items ≡ entry_over (value_in l.log.messages) (map (λ (m : Message). m.field) (take l.message-index l.messages)))
    × ((f : FieldNames) → set.contains names_cmp l.seen f ≡ list_any (λ (b : Before). names_eq b.field f) l.found.items)
