-- What the columns of a statement mean, where a bad place is, and plain texts.
use Rattle.std.specs.Prelude.{◌≡◌, ◌≢◌, ◌↔◌, ℕ, ◌≤◌, ◌<◌, ℤ, true, List, [], ◌∷◌, ◌++◌, flat_map, Option, None, Some, codes}
use Rattle.std.specs.List.{Contains, slice_get}
use Rattle.finite_sums.specs.Maps.{Text}
use Rattle.book_rows.specs.declared.fault.EditFault.TheVariants.{BadStatement}
use Rattle.rule_engine.specs.Days.{day_of_text}
use Rattle.bank_import.specs.Statement.{amount_of_text, is_good, text_in, columns_of, bad_place, rows_in}
use Rattle.bank_import.specs.Read.{IsColumn}

-- a column that may be there is the first one of its name, and else none
pub record IsNamed (name : Text) (header : List Text) (column : Option ℕ) : Type 0 where
  pub there : (k : ℕ) → (column ≡ Some k) ↔ IsColumn name header k
  pub none : (column ≡ None) ↔ ((k : ℕ) → IsColumn name header k → ⊥)

-- which columns a statement has, where days and amounts stand in these two
pub record ColumnsAreNamed (header : List Text) (date amount : ℕ) : Type 0 where
  pub days : (columns_of header date amount).date ≡ date
  pub amounts : (columns_of header date amount).amount ≡ amount
  pub payees : IsNamed (codes "payee") header (columns_of header date amount).payee
  pub notes : IsNamed (codes "notes") header (columns_of header date amount).notes
  pub ids : IsNamed (codes "id") header (columns_of header date amount).id

-- what statements say
pub record ColumnsAreTold : Type 0 where
  pub columns : (header : List Text) (date amount : ℕ) → ColumnsAreNamed header date amount
  -- a record says the text of the column, where it isn't empty; without the column it says none
  pub text : (k : ℕ) (fields : List Text) (t : Text) → (text_in (Some k) fields ≡ Some t) ↔ ((slice_get fields k ≡ Some t) × (t ≢ []))
  pub no_column : (fields : List Text) → text_in None fields ≡ None
  -- a field is bad where it is none of its column: of days, or of amounts
  pub good : (header : List Text) (date amount k : ℕ) (f : Text) → (is_good (columns_of header date amount) k f ≡ true)
      ↔ ((k ≡ date → (n : ℕ) × (day_of_text f ≡ Some n)) × (k ≡ amount → (z : ℤ) × (amount_of_text f ≡ Some z)))
  -- its place is told as it is, as far as 32 bits go
  pub place : (row column : ℕ) → row < 4_294_967_296 → column < 4_294_967_296 → bad_place row column ≡ BadStatement row column
  pub far_row : (row column : ℕ) → 4_294_967_296 ≤ row → column < 4_294_967_296 → bad_place row column ≡ BadStatement 4_294_967_295 column
  pub far_column : (row column : ℕ) → row < 4_294_967_296 → 4_294_967_296 ≤ column → bad_place row column ≡ BadStatement row 4_294_967_295

-- ---- plain texts

-- a field without a comma, a quote and a line break
abbrev pub IsPlain : Text → Type 0
IsPlain f = (b : ℕ) → Contains f b → (b ≢ 44) × (b ≢ 34) × (b ≢ 13) × (b ≢ 10)

-- such fields, two of them at least
abbrev pub IsPlainRow : List Text → Type 0
IsPlainRow [] = ⊥
IsPlainRow (f ∷ []) = ⊥
IsPlainRow (f ∷ g ∷ fs) = (h : Text) → Contains (f ∷ g ∷ fs) h → IsPlain h

-- the fields of a row with commas between them, and a line feed
abbrev pub line : List Text → Text
line [] = 10 ∷ []
line (f ∷ []) = f ++ 10 ∷ []
line (f ∷ g ∷ fs) = f ++ 44 ∷ line (g ∷ fs)

-- lines of plain fields are these rows, where the text doesn't begin as a byte order mark does
abbrev pub PlainTextsReadBack : Type 0
PlainTextsReadBack = (rows : List (List Text)) → ((row : List Text) → Contains rows row → IsPlainRow row)
    → ((rest : Text) → flat_map line rows ≢ 239 ∷ rest) → rows_in (flat_map line rows) ≡ rows
