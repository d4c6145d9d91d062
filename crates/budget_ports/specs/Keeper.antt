-- What the calls of a keeper do.
use Rattle.std.specs.Prelude.{◌≡◌, ◌⊎◌, ◌<◌, List, [], ◌∷◌, length, Bool, true, false, Result, Ok, Err}
use Rattle.std.specs.List.{AllByRecursion}
use Rattle.std.specs.declared.cmp.Ordering.TheVariants.{Less}
use Rattle.budget_ports.specs.declared.keeper.PortFault.{PortFault}
use Rattle.budget_ports.specs.declared.keeper.PortFault.TheVariants.{Failed, NoMemory}
use Rattle.budget_ports.specs.declared.keeper.Record.{Record}
use Rattle.budget_ports.specs.Contents.{Contents, text_cmp}

-- whether the outside failed: a want of memory is no failure of it
abbrev pub has_failed : {T : Type 0} → Result T PortFault → Bool
has_failed (Ok value) = false
has_failed (Err Failed) = true
has_failed (Err NoMemory) = false

-- each key has at least one byte
abbrev pub HaveKeys : List Record → Type 0
HaveKeys = AllByRecursion (λ r. 0 < length r.key)

-- each key has at least one byte and is below each later one
abbrev pub Rise : List Record → Type 0
Rise [] = Unit {0}
Rise (r ∷ rs) = (0 < length r.key) × AllByRecursion (λ s. text_cmp r.key s.key ≡ Less) rs × Rise rs

-- a stop leaves what it could leave before, or, of a keeper that told, the new contents
abbrev pub Commits : Type 0 → (Contents → Type 0) → (Contents → Type 0) → Contents → Type 0
Commits told old new done = (k : Contents) → new k → old k ⊎ (told × (k ≡ done))

-- a stop leaves nothing that it could not leave before
abbrev pub LeavesNoMore : (Contents → Type 0) → (Contents → Type 0) → Type 0
LeavesNoMore old new = (k : Contents) → new k → old k

-- a keeper of which a stop may leave anything tells
abbrev pub IsKnown : Type 0 → (Contents → Type 0) → Type 0
IsKnown tells left = (k : Contents) → left k → tells

-- the same, and a stop leaves nothing but its contents
abbrev pub IsAlone : Type 0 → Contents → (Contents → Type 0) → Type 0
IsAlone tells now left = (k : Contents) → left k → tells × (k ≡ now)
