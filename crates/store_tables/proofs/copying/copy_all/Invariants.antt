use Rattle.std.proofs.Common.{◌≡◌, drop}
use Rattle.sqlite.specs.State.{HasCleanDisk, Survives}
use Rattle.sqlite.specs.Held.{state}
use Rattle.sqlite_rules.specs.Lists.{Has}
use Rattle.store_tables.specs.Texts.{Tables, Texts}
use Rattle.store_tables.specs.Layout.{Layout}
use Rattle.store_tables.specs.Within.{Within}
use Rattle.store_tables.specs.Met.{IsMet}
use Rattle.store_tables.specs.Copied.{CopiesOn, IsItemRow}
use Rattle.store_tables.proofs.copying.copy_all.Given as goal

abbrev pub invariant-loop-row : goal.invariant-loop-row
invariant-loop-row g l =
    let old = l.fn.tx.conn.now in
    let now = l.tx.conn.now in
    (l.tx.conn.ghost_name ≡ l.fn.tx.conn.ghost_name) × Survives (state g.S.Store old) (state g.S.Store now) (λ _. ⊥)
    × (HasCleanDisk (state g.S.Store now) → (t : Tables) → Layout t → Texts t → ((x : _) → Has l.rows x → IsItemRow x) → Within t g.S.Store old
    → CopiesOn t g.S.Store old now l.rows (drop l.row-index l.rows) × IsMet ((state g.S.Store now).now.trees t.grps_tree) l.known)
