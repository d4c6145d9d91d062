-- The three names of a field.
use Rattle.std.specs.Prelude.{◌≢◌, ℕ, ◌<◌, ◌≤◌, ◌||◌, ◌&&◌, ◌==◌, List, length, Bool, nat_lt, if◌then◌else◌, position, Option, Some, All, take, drop, slice_range, IsCharBoundary}
use Rattle.std.specs.Option.{option_or, option_map}
use Rattle.std.specs.Cmp.Lexicographic.{pointwise, slice_cmp}
use Rattle.std.specs.Ordering.{nat_cmp, on, then_cmp}
use Rattle.std.specs.declared.cmp.Ordering.{Ordering}
use Rattle.field_values.specs.declared.name.NamePart.{NamePart}
use Rattle.field_values.specs.declared.name.NamePart.TheVariants.{Dataset, Row, Column}
use Rattle.field_values.specs.declared.name.NameFault.{NameFault}
use Rattle.field_values.specs.declared.name.NameFault.TheVariants.{Empty, TooLong, BadByte}

-- the dataset, the row and the column of a field, each the bytes of a text
pub record FieldNames : Type 0 where
  pub dataset : List ℕ
  pub row : List ℕ
  pub column : List ℕ

-- the name of a field in this part
abbrev pub name_of : NamePart → FieldNames → List ℕ
name_of Dataset names = names.dataset
name_of Row names = names.row
name_of Column names = names.column

-- the field that has these names
abbrev pub field_of : List ℕ → List ℕ → List ℕ → FieldNames
field_of dataset row column = record { dataset = dataset; row = row; column = column }

-- three names that stand one behind the other in a text, where the row begins at one place and the column at another
abbrev pub cut_names : List ℕ → ℕ → ℕ → FieldNames
cut_names text row_at column_at = field_of (take row_at text) (slice_range text row_at column_at) (drop column_at text)

-- the places stand in their order, and no character is cut at either
pub record IsCut (text : List ℕ) (row_at column_at : ℕ) : Type 0 where
  pub in_order : row_at ≤ column_at
  pub row : IsCharBoundary text row_at
  pub column : IsCharBoundary text column_at

-- a byte that a name may have: any but the control characters of ASCII
abbrev pub IsNameByte : ℕ → Type 0
IsNameByte b = (32 ≤ b) × (b ≢ 127)

-- 1 to 255 bytes, each one that a name may have
pub record IsName (name : List ℕ) : Type 0 where
  pub some : 0 < length name
  pub short : length name ≤ 255
  pub bytes : All IsNameByte name

-- each of the three is a name
pub record AreNames (names : FieldNames) : Type 0 where
  pub dataset : IsName names.dataset
  pub row : IsName names.row
  pub column : IsName names.column

-- whether a byte is a control character of ASCII, which no name may have
abbrev pub is_bad_byte : ℕ → Bool
is_bad_byte b = nat_lt b 32 || (b == 127)

-- the fault of a name: it is empty, else too long, else it has a bad byte, of which the first is told
abbrev pub name_fault : NamePart → List ℕ → Option NameFault
name_fault part name =
    if length name == 0 then Some (Empty part)
    else (if nat_lt 255 (length name) then Some (TooLong part (length name))
    else option_map (λ at. BadByte part at) (position is_bad_byte name))

-- the first fault of the names: the dataset's, else the row's, else the column's
abbrev pub names_fault : FieldNames → Option NameFault
names_fault names = option_or (name_fault Dataset names.dataset)
    (option_or (name_fault Row names.row) (name_fault Column names.column))

-- whether two fields have the same three names
abbrev pub names_eq : FieldNames → FieldNames → Bool
names_eq a b = pointwise ◌==◌ a.dataset b.dataset && (pointwise ◌==◌ a.row b.row && pointwise ◌==◌ a.column b.column)

-- the order of fields: by dataset, then row, then column, each by its bytes
abbrev pub names_cmp : FieldNames → FieldNames → Ordering
names_cmp =
    then_cmp (on (λ (f : FieldNames). f.dataset) (slice_cmp nat_cmp))
    (then_cmp (on (λ (f : FieldNames). f.row) (slice_cmp nat_cmp)) (on (λ (f : FieldNames). f.column) (slice_cmp nat_cmp)))
