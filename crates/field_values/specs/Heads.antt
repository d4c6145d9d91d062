-- The head of a text: its first 16 bytes as a number, by which most texts are ordered.
use Rattle.std.specs.Prelude.{◌≡◌, ℕ, zero, suc, ◌+◌, ◌*◌, ◌<◌, ◌≤◌, List, [], ◌∷◌, length, drop, slice_index}
use Rattle.field_values.specs.Names.{FieldNames}

-- the number that n bytes spell after k, the greatest first: the list's, and 0 for each that it does not have
abbrev pub head_from : ℕ → ℕ → List ℕ → ℕ
head_from zero k xs = k
head_from (suc n) k [] = head_from n (k * 256) []
head_from (suc n) k (x ∷ xs) = head_from n (k * 256 + x) xs

-- the number that the first 16 bytes spell, where 0 stands for each that is not there
abbrev pub head_of : List ℕ → ℕ
head_of xs = head_from 16 0 xs

-- each of them is below 256, as a byte is
abbrev pub AreBytes : List ℕ → Type 0
AreBytes xs = (k : ℕ) → slice_index xs k < 256

-- a length that a byte keeps: below 255 it is the text's, and 255 stands for each that is not below 255
unfoldable pub IsShortLength : ℕ → List ℕ → Type 0
IsShortLength n xs = (n < 255 → n ≡ length xs) × (n ≡ 255 → 255 ≤ length xs)

-- what a key keeps of a text
pub record IsHead (number len : ℕ) (text : List ℕ) : Type 0 where
  pub head : number ≡ head_of text
  pub length : IsShortLength len text
  pub bytes : AreBytes text

-- what a key keeps of a text that may be longer
pub record AreHeads (one two three len : ℕ) (text : List ℕ) : Type 0 where
  pub first : one ≡ head_of text
  pub second : two ≡ head_of (drop 16 text)
  pub third : three ≡ head_of (drop 32 text)
  pub length : IsShortLength len text
  pub bytes : AreBytes text

-- what a key keeps beside its field: of the dataset, of the row and of the column
pub record IsKey (dataset dataset_len one two three row_len column column_len : ℕ) (names : FieldNames) : Type 0 where
  pub of_dataset : IsHead dataset dataset_len names.dataset
  pub of_row : AreHeads one two three row_len names.row
  pub of_column : IsHead column column_len names.column

-- the same, which is not unfolded in the crates above
unfoldable pub KeepsHeads : (dataset dataset_len one two three row_len column column_len : ℕ) → FieldNames → Type 0
KeepsHeads dataset dataset_len one two three row_len column column_len names = IsKey dataset dataset_len one two three row_len column column_len names
