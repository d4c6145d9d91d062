-- What the laws on names and fields say.
use Rattle.std.specs.Prelude.{◌≡◌, ◌↔◌, ℕ, ◌<◌, ◌≤◌, true, List, length, slice_index, Some, None}
use Rattle.std.specs.Cmp.{IsTotalOrder}
use Rattle.std.specs.Cmp.Lexicographic.{slice_cmp}
use Rattle.std.specs.Ordering.{nat_cmp}
use Rattle.std.specs.declared.cmp.Ordering.TheVariants.{Less, Equal}
use Rattle.field_values.specs.declared.name.NamePart.{NamePart}
use Rattle.field_values.specs.declared.name.NamePart.TheVariants.{Dataset, Row, Column}
use Rattle.field_values.specs.declared.name.NameFault.{NameFault}
use Rattle.field_values.specs.declared.name.NameFault.TheVariants.{Empty, TooLong, BadByte, NoMemory}
use Rattle.field_values.specs.Names.{FieldNames, name_of, IsNameByte, IsName, AreNames, names_fault, names_eq, names_cmp}

-- those before it are names
abbrev pub AreNamesBefore : NamePart → FieldNames → Type 0
AreNamesBefore Dataset names = Unit {0}
AreNamesBefore Row names = IsName names.dataset
AreNamesBefore Column names = IsName names.dataset × IsName names.row

-- a name of up to 255 bytes has a byte at this place that no name may have, and none before it
pub record IsFirstBadByte (name : List ℕ) (at : ℕ) : Type 0 where
  pub short : length name ≤ 255
  pub within : at < length name
  pub bad : IsNameByte (slice_index name at) → ⊥
  pub first : (k : ℕ) → k < at → IsNameByte (slice_index name k)

-- what is wrong with a name that is no name: it has no byte, or else too many, or else it has a bad byte
abbrev pub IsFaultOf : NamePart → FieldNames → NameFault → Type 0
IsFaultOf part names (Empty p) = (p ≡ part) × (length (name_of part names) ≡ 0)
IsFaultOf part names (TooLong p n) = (p ≡ part) × (n ≡ length (name_of part names)) × (255 < n)
IsFaultOf part names (BadByte p at) = (p ≡ part) × IsFirstBadByte (name_of part names) at
IsFaultOf part names NoMemory = ⊥

-- the fault is that of one of the names, and those before it are names
abbrev pub IsFirstFault : FieldNames → NameFault → Type 0
IsFirstFault names fault = (part : NamePart) × AreNamesBefore part names × IsFaultOf part names fault

-- which fault is told of names
pub record FaultsAreTold : Type 0 where
  -- names are names exactly where they have no fault
  pub none : (names : FieldNames) → (names_fault names ≡ None) ↔ AreNames names
  -- the fault is the first thing that is wrong with them
  pub first : (names : FieldNames) (fault : NameFault) → names_fault names ≡ Some fault → IsFirstFault names fault

-- when fields are equal, and how they are ordered
pub record FieldsAreOrdered : Type 0 where
  -- fields are equal exactly where their names are the same
  pub equal : (a b : FieldNames) → (names_eq a b ≡ true) ↔ (a ≡ b)
  -- neither of two fields is before the other exactly where they are the same
  pub level : (a b : FieldNames) → (names_cmp a b ≡ Equal) ↔ (a ≡ b)
  -- the order is total
  pub total : IsTotalOrder names_cmp
  -- the datasets are compared first
  pub by_dataset : (a b : FieldNames) → slice_cmp nat_cmp a.dataset b.dataset ≡ Less → names_cmp a b ≡ Less
  -- then the rows
  pub by_row : (a b : FieldNames) → a.dataset ≡ b.dataset → slice_cmp nat_cmp a.row b.row ≡ Less → names_cmp a b ≡ Less
  -- and then the columns
  pub by_column : (a b : FieldNames) → a.dataset ≡ b.dataset → a.row ≡ b.row → slice_cmp nat_cmp a.column b.column ≡ Less → names_cmp a b ≡ Less
