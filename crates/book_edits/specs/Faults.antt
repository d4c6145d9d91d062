-- Checks one after the other: the first that fails refuses an edit.
use Rattle.std.specs.Prelude.{◌≡◌, Bool, List, [], ◌∷◌, Option, None, Some, Result, Ok, Err, if◌then◌else◌}
use Rattle.book_rows.specs.declared.fault.EditFault.{EditFault}
use Rattle.book_rows.specs.declared.fault.EditFault.TheVariants.{NoMemory}

-- what follows a check that passes, and else its fault
infixl 10 ◌>>=◌
abbrev pub ◌>>=◌ : {A B : Type 0} → Result A EditFault → (A → Result B EditFault) → Result B EditFault
Ok value >>= next = next value
Err fault >>= next = Err fault

-- a check, which passes or tells a fault
abbrev pub Check : Type 0
Check = Result (Unit {0}) EditFault

-- this has to be so, or else the fault is told
abbrev pub must : Bool → EditFault → Check
must b fault = if b then Ok tt else Err fault

-- a check of what may be absent
abbrev pub if_there : {A : Type 0} → (A → Check) → Option A → Check
if_there check None = Ok tt
if_there check (Some a) = check a

-- a check of each, one after the other
abbrev pub each : {A : Type 0} → (A → Check) → List A → Check
each check [] = Ok tt
each check (a ∷ rest) = do
  _ ← check a
  each check rest

-- memory ran out, or it is the fault that is due
abbrev pub IsEditFault : {A : Type 0} → Result A EditFault → EditFault → Type 0
IsEditFault due fault = (fault ≡ NoMemory → ⊥) → due ≡ Err fault
