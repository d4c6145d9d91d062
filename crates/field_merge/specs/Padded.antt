-- Texts that stand in place.
use Rattle.std.specs.Prelude.{◌≡◌, ◌≤◌, ◌-◌, ◌++◌, ℕ, List, length, replicate, take, IsUtf8}
use Rattle.std.specs.Int.{to_be_bytes, w128}
use Rattle.field_values.specs.Heads.{AreBytes, IsKey}
use Rattle.field_values.specs.Names.{FieldNames, field_of}

-- a text of so many bytes at the beginning of room for `most`, with zeros behind it
pub record IsPadded (most : ℕ) (bytes : List ℕ) (len : ℕ) : Type 0 where
  pub room : length bytes ≡ most
  pub fits : len ≤ most
  pub zeros : bytes ≡ take len bytes ++ replicate (most - len) 0
  pub utf8 : IsUtf8 (take len bytes)
  pub small : AreBytes (take len bytes)

-- the 16 bytes that a number spells, the greatest first
unfoldable pub bytes_of : ℕ → List ℕ
bytes_of number = to_be_bytes w128 number

-- the 48 bytes that three numbers spell
abbrev pub bytes_of_three : ℕ → ℕ → ℕ → List ℕ
bytes_of_three one two three = bytes_of one ++ (bytes_of two ++ bytes_of three)

-- the names that numbers spell: each so many of their bytes
abbrev pub kept_names : (dataset dataset_len one two three row_len column column_len : ℕ) → FieldNames
kept_names dataset dataset_len one two three row_len column column_len =
    field_of (take dataset_len (bytes_of dataset)) (take row_len (bytes_of_three one two three)) (take column_len (bytes_of column))

-- numbers that keep the names of a field as a key does, with zeros behind each
pub record AreKept (dataset dataset_len one two three row_len column column_len : ℕ) : Type 0 where
  pub of_dataset : IsPadded 16 (bytes_of dataset) dataset_len
  pub of_row : IsPadded 48 (bytes_of_three one two three) row_len
  pub of_column : IsPadded 16 (bytes_of column) column_len
  pub key : IsKey dataset dataset_len one two three row_len column column_len (kept_names dataset dataset_len one two three row_len column column_len)
