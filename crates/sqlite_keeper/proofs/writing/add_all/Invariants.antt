use Rattle.std.proofs.Common.{◌≡◌, drop}
use Rattle.sqlite.specs.State.{HasCleanDisk, Survives}
use Rattle.sqlite.specs.Held.{state}
use Rattle.store_tables.specs.Texts.{Tables}
use Rattle.store_tables.specs.Known.{IsSecond}
use Rattle.store_tables.specs.Within.{Within, IsIdOf}
use Rattle.sqlite_keeper.specs.Contents.{Text, AddsOn}
use Rattle.sqlite_keeper.proofs.writing.add_all.Given as goal

abbrev pub invariant-loop-kept : goal.invariant-loop-kept
invariant-loop-kept g l =
    let old = l.fn.tx.conn.now in
    let now = l.tx.conn.now in
    (l.tx.conn.ghost_name ≡ l.fn.tx.conn.ghost_name) × Survives (state g.S.Store old) (state g.S.Store now) (λ _. ⊥)
    × (HasCleanDisk (state g.S.Store now) → (t : Tables) → IsSecond t → (group : Text) → Within t g.S.Store old → IsIdOf ((state g.S.Store old).now.trees t.grps_tree) l.id group → AddsOn t g.S.Store old now group l.batch (drop l.kept-index l.batch))
