-- The entries that can be undone and redone.
use Rattle.std.specs.Prelude.{◌≡◌, ◌-◌, ◌<◌, ◌≤◌, List, [], ◌∷◌, ◌++◌, length, take, Option, Some}
use Rattle.std.specs.List.{AllByRecursion, slice_get}
use Rattle.field_values.specs.declared.value.Value.{Value}
use Rattle.field_values.specs.Names.{AreNames}
use Rattle.field_values.specs.Value.{IsValue}
use Rattle.edit_history.specs.declared.before.Before.{Before}
use Rattle.edit_history.specs.declared.history.Turn.{Turn}
use Rattle.edit_history.specs.declared.history.Turn.TheVariants.{New, Undo, Redo}

-- the entries that can be undone, and those that can be redone, of each the latest at the end
pub record Entries : Type 0 where
  pub undo : List (List Before)
  pub redo : List (List Before)

-- nothing can be undone or redone
abbrev pub no_entries : Entries
no_entries = record { undo = []; redo = [] }

-- the latest of entries, if there is one
abbrev pub latest_of : List (List Before) → Option (List Before)
latest_of entries = slice_get entries (length entries - 1)

-- all but the latest
abbrev pub but_latest : List (List Before) → List (List Before)
but_latest entries = take (length entries - 1) entries

-- the entries after a line with writes: what a new edit wrote over can be undone, and nothing can be redone any more; what an undo
-- wrote over can be redone, in place of what it undid; what a redo wrote over can be undone, in place of what it redid
abbrev pub after : Turn → Entries → List Before → Entries
after New entries entry = record { undo = entries.undo ++ entry ∷ []; redo = [] }
after Undo entries entry = record { undo = but_latest entries.undo; redo = entries.redo ++ entry ∷ [] }
after Redo entries entry = record { undo = entries.undo ++ entry ∷ []; redo = but_latest entries.redo }

-- what stood in a field is valid
pub record IsBefore (b : Before) : Type 0 where
  pub field : AreNames b.field
  pub value : (v : Value) → b.value ≡ Some v → IsValue v

-- an entry has a field, and no more of them than one edit writes
pub record IsEntry (entry : List Before) : Type 0 where
  pub some : 0 < length entry
  pub few : length entry ≤ 65_536
  pub valid : AllByRecursion IsBefore entry

-- all entries are valid
pub record AreEntries (entries : Entries) : Type 0 where
  pub undo : AllByRecursion IsEntry entries.undo
  pub redo : AllByRecursion IsEntry entries.redo
