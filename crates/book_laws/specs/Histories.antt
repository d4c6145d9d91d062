-- Entries are taken back the other way round than they came.
use Rattle.std.specs.Prelude.{◌≡◌, List, [], ◌∷◌, ◌++◌, None, Some}
use Rattle.edit_history.specs.declared.before.Before.{Before}
use Rattle.edit_history.specs.declared.history.Turn.TheVariants.{New, Undo, Redo}
use Rattle.edit_history.specs.History.{Entries, no_entries, latest_of, after}

pub record HistoriesGoBack : Type 0 where
  -- at first nothing can be undone or redone
  pub first_undo : latest_of no_entries.undo ≡ None
  pub first_redo : latest_of no_entries.redo ≡ None
  -- the latest entry is the one that came last
  pub latest : (others : List (List Before)) (entry : List Before) → latest_of (others ++ entry ∷ []) ≡ Some entry
  -- an edit can be undone then, and those before it behind it; nothing can be redone
  pub edited : (h : Entries) (entry : List Before) → after New h entry ≡ record { undo = h.undo ++ entry ∷ []; redo = [] }
  -- the edit that was undone can't be undone again, but redone, and those undone before it behind it
  pub undone : (undo redo : List (List Before)) (last entry : List Before) → after Undo (record { undo = undo ++ last ∷ []; redo = redo }) entry ≡ record { undo = undo; redo = redo ++ entry ∷ [] }
  -- the one that was redone can't be redone again, but undone
  pub redone : (undo redo : List (List Before)) (last entry : List Before) → after Redo (record { undo = undo; redo = redo ++ last ∷ [] }) entry ≡ record { undo = undo ++ entry ∷ []; redo = redo }
