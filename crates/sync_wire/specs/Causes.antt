-- Why no field is spelled at the front of bytes, and where a text isn't UTF-8.
use Rattle.std.specs.Prelude.{◌≡◌, ◌⊎◌, ℕ, ◌+◌, ◌-◌, ◌*◌, ◌^◌, ◌<◌, ◌≤◌, All, List, ◌++◌, length, true, false, None, Some, Err, IsUtf8}
use Rattle.std.specs.Str.{IsValidUpTo}
use Rattle.sync_wire.specs.declared.fault.WireFault.{WireFault}
use Rattle.sync_wire.specs.declared.fault.WireFault.TheVariants.{Truncated, BadTag, LongVarint, NotUtf8}
use Rattle.sync_wire.specs.declared.layout.Layout.{Layout}
use Rattle.sync_wire.specs.Layouts.{allows}
use Rattle.sync_wire.specs.Fields.{field_at}
use Rattle.sync_wire.specs.Meaning.{text_fault}
use Rattle.sync_wire.specs.Spelling.{Spells, IsNumber}

-- the bytes break off inside a number: fewer than ten, and after each one more has to come
pub record IsCut (bytes : List ℕ) : Type 0 where
  pub few : length bytes < 10
  pub open_ : All (λ b. 128 ≤ b) bytes

-- ten bytes, after each of which one more has to come
pub record IsEndless (bytes : List ℕ) : Type 0 where
  pub front : List ℕ
  pub rest : List ℕ
  pub whole : bytes ≡ front ++ rest
  pub ten : length front ≡ 10
  pub open_ : All (λ b. 128 ≤ b) front

-- at most ten bytes spell a number of more than 64 bits
pub record IsLarge (bytes : List ℕ) : Type 0 where
  pub text : List ℕ
  pub rest : List ℕ
  pub number : ℕ
  pub whole : bytes ≡ text ++ rest
  pub spells : Spells text number
  pub short : length text ≤ 10
  pub large : 2 ^ 64 ≤ number

-- no number is spelled at the front: the bytes break off, or the number is too long or too large, which is told at its first byte
abbrev pub IsNumberFault : ℕ → List ℕ → WireFault → Type 0
IsNumberFault end bytes f = ((f ≡ Truncated end) × IsCut bytes) ⊎ ((f ≡ LongVarint (end - length bytes)) × (IsEndless bytes ⊎ IsLarge bytes))

-- a length, and fewer bytes behind it
pub record IsShort (bytes : List ℕ) : Type 0 where
  pub len : List ℕ
  pub rest : List ℕ
  pub number : ℕ
  pub whole : bytes ≡ len ++ rest
  pub spelled : IsNumber len number
  pub short : length rest < number

-- what a field of a type holds is not there whole, or begins with a number that is too long or too large
abbrev pub IsBodyFault : ℕ → ℕ → List ℕ → WireFault → Type 0
IsBodyFault kind end bytes f =
    ((kind ≡ 0) × IsNumberFault end bytes f)
    ⊎ ((kind ≡ 2) × (IsNumberFault end bytes f ⊎ ((f ≡ Truncated end) × IsShort bytes)))
    ⊎ ((kind ≡ 1) × (f ≡ Truncated end) × (length bytes < 8))
    ⊎ ((kind ≡ 5) × (f ≡ Truncated end) × (length bytes < 4))

-- a tag is spelled, and it isn't allowed in the message, or what follows it has such a fault
pub record IsTagged (layout : Layout) (end : ℕ) (bytes : List ℕ) (f : WireFault) : Type 0 where
  pub tag : List ℕ
  pub rest : List ℕ
  pub number : ℕ
  pub kind : ℕ
  pub whole : bytes ≡ tag ++ rest
  pub spelled : IsNumber tag (8 * number + kind)
  pub small : kind < 8
  pub fault : ((allows layout number kind ≡ false) × (f ≡ BadTag (end - length bytes))) ⊎ ((allows layout number kind ≡ true) × IsBodyFault kind end rest f)

-- no tag is spelled, or one is, and the fault is its own or that of what follows it
abbrev pub IsFieldFault : Layout → ℕ → List ℕ → WireFault → Type 0
IsFieldFault layout end bytes f = IsNumberFault end bytes f ⊎ IsTagged layout end bytes f

-- a fault that is told of a field has its cause
abbrev pub FaultsHaveCauses : Type 0
FaultsHaveCauses = (layout : Layout) (end : ℕ) (bytes : List ℕ) (f : WireFault) → field_at layout end bytes ≡ Err f → IsFieldFault layout end bytes f

-- bytes that end at a place are a text, and no fault is told; or the longest front of them that is one is followed by more, and where that begins is told
abbrev pub TextsArePlaced : Type 0
TextsArePlaced = (end : ℕ) (bytes : List ℕ) → (IsUtf8 bytes × (text_fault end bytes ≡ None))
    ⊎ ((n : ℕ) × IsValidUpTo bytes n × (text_fault end bytes ≡ Some (NotUtf8 (end - (length bytes - n)))))
