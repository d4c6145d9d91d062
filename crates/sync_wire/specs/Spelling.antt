-- How fields are spelled.
use Rattle.std.specs.Prelude.{◌≡◌, ◌⊎◌, ℕ, ◌+◌, ◌-◌, ◌*◌, ◌^◌, ◌<◌, ◌≤◌, List, [], ◌∷◌, ◌++◌, length, Bool, true, Option, Some, None, Err}
use Rattle.std.specs.List.{AllByRecursion}
use Rattle.sync_wire.specs.declared.fault.WireFault.{WireFault}
use Rattle.sync_wire.specs.declared.layout.Layout.{Layout}
use Rattle.sync_wire.specs.Layouts.{allows}
use Rattle.sync_wire.specs.Fields.{Payload, Number, Fixed, Bytes, Tagged, field_at}

-- Seven bits a byte, the lowest first. A byte below 128 is the last.
abbrev pub Spells : List ℕ → ℕ → Type 0
Spells [] n = ⊥
Spells (b ∷ bytes) n = ((b < 128) × (bytes ≡ []) × (n ≡ b)) ⊎ ((high : ℕ) × (128 ≤ b) × (n ≡ b - 128 + 128 * high) × Spells bytes high)

pub record IsNumber (text : List ℕ) (n : ℕ) : Type 0 where
  pub spells : Spells text n
  pub short : length text ≤ 10
  pub fits : n < 2 ^ 64

-- what a field of a type holds, its text ending at a place
abbrev pub IsBody : ℕ → List ℕ → ℕ → Payload → Type 0
IsBody kind text place (Number n) = (kind ≡ 0) × IsNumber text n
IsBody kind text place Fixed = ((kind ≡ 1) × (length text ≡ 8)) ⊎ ((kind ≡ 5) × (length text ≡ 4))
IsBody kind text place (Bytes end bytes) = (len : List ℕ) × (kind ≡ 2) × (end ≡ place) × IsNumber len (length bytes) × (text ≡ len ++ bytes)

-- the text of a field, which ends at a place
pub record IsField (layout : Layout) (text : List ℕ) (place : ℕ) (t : Tagged) : Type 0 where
  pub tag : List ℕ
  pub body : List ℕ
  pub kind : ℕ
  pub whole : text ≡ tag ++ body
  pub tagged : IsNumber tag (8 * t.number + kind)
  pub small : kind < 8
  pub allowed : allows layout t.number kind ≡ true
  pub holds : IsBody kind body place t.payload

-- the bytes are the texts of these fields, one after the other, and then a rest
abbrev pub AreFieldsTo : Layout → ℕ → List ℕ → List Tagged → List ℕ → Type 0
AreFieldsTo layout end bytes [] last = bytes ≡ last
AreFieldsTo layout end bytes (t ∷ ts) last = (text : List ℕ) × (rest : List ℕ) × (bytes ≡ text ++ rest) × IsField layout text (end - length rest) t × AreFieldsTo layout end rest ts last

-- the bytes are the texts of these fields, and no more
abbrev pub AreFields : Layout → ℕ → List ℕ → List Tagged → Type 0
AreFields layout end bytes ts = AreFieldsTo layout end bytes ts []

-- what comes next has the fault: no field is spelled there, or one is and check finds it
abbrev pub IsFaulty : (Tagged → Option WireFault) → Layout → ℕ → List ℕ → WireFault → Type 0
IsFaulty check layout end bytes f =
    ((0 < length bytes) × (field_at layout end bytes ≡ Err f))
    ⊎ ((text : List ℕ) × (rest : List ℕ) × (t : Tagged) × (bytes ≡ text ++ rest) × IsField layout text (end - length rest) t × (check t ≡ Some f))

-- The first fault in reading order: before it stand fields without one.
pub record FirstFault (check : Tagged → Option WireFault) (layout : Layout) (end : ℕ) (bytes : List ℕ) (f : WireFault) : Type 0 where
  pub fields : List Tagged
  pub next : List ℕ
  pub spelled : AreFieldsTo layout end bytes fields next
  pub faultless : AllByRecursion (λ t. check t ≡ None) fields
  pub faulty : IsFaulty check layout end next f

-- The bytes are the texts of fields, none has a fault, and by its meaning they say x.
pub record Means {X : Type 0} (check : Tagged → Option WireFault) (layout : Layout) (meaning : List Tagged → X) (end : ℕ) (bytes : List ℕ) (x : X) : Type 0 where
  pub fields : List Tagged
  pub spelled : AreFields layout end bytes fields
  pub faultless : AllByRecursion (λ t. check t ≡ None) fields
  pub said : x ≡ meaning fields

-- The bytes begin with fields without a fault, the last of which is one of the kept ones.
pub record BeginsWithKept (check : Tagged → Option WireFault) (kept : ℕ → Bool) (layout : Layout) (end : ℕ) (bytes : List ℕ) : Type 0 where
  pub before : List Tagged
  pub last : Tagged
  pub rest : List ℕ
  pub spelled : AreFieldsTo layout end bytes (before ++ last ∷ []) rest
  pub faultless : AllByRecursion (λ t. check t ≡ None) (before ++ last ∷ [])
  pub keeps : kept last.number ≡ true
