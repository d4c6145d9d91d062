-- Bytes that begin with fields without a fault, the last of which is kept.
use Rattle.std.proofs.Common.{◌≡◌, ℕ, Bool, true, List, [], ◌∷◌, Option, Some, None, Ok, refl}
use Rattle.sync_wire.specs.declared.fault.WireFault.{WireFault}
use Rattle.sync_wire.specs.declared.layout.Layout.{Layout}
use Rattle.sync_wire.specs.Reading.{answer}
use Rattle.sync_wire.specs.Fields.{Tagged, field_at}
use Rattle.sync_wire.specs.Spelling.{BeginsWithKept}
use Rattle.sync_wire.proofs.Spelled.{field_takes}

-- this field is kept
pub kept_here : (check : Tagged → Option WireFault) (kept : ℕ → Bool) (layout : Layout) (end : ℕ) (bytes rest : List ℕ) (t : Tagged)
    → field_at layout end bytes ≡ Ok (t, rest) → check t ≡ None → kept t.number ≡ true → BeginsWithKept check kept layout end bytes
kept_here check kept layout end bytes rest t e none keeps =
    let a = field_takes layout end bytes t rest e in
    record { before = []; last = t; rest = rest; spelled = (a.0, rest, a.1, a.2, refl); faultless = (none, tt); keeps = keeps }

-- one behind this field is
pub kept_later : (check : Tagged → Option WireFault) (kept : ℕ → Bool) (layout : Layout) (end : ℕ) (bytes rest : List ℕ) (t : Tagged)
    → field_at layout end bytes ≡ Ok (t, rest) → check t ≡ None → BeginsWithKept check kept layout end rest → BeginsWithKept check kept layout end bytes
kept_later check kept layout end bytes rest t e none h =
    let a = field_takes layout end bytes t rest e in
    record { before = t ∷ h.before; last = h.last; rest = h.rest; spelled = (a.0, rest, a.1, a.2, h.spelled); faultless = (none, h.faultless); keeps = h.keeps }

-- an answer that is no fault is told where there is none
pub no_fault_told : {X : Type 0} (o : Option WireFault) (m x : X) → answer o m ≡ Ok x → o ≡ None
no_fault_told None m x e = refl
no_fault_told (Some f) m x e = absurd cc
