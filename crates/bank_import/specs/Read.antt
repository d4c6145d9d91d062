-- The law on reading: which rows are entries, and where the first bad place is.
use Rattle.std.specs.Prelude.{◌≡◌, ◌≢◌, ◌↔◌, ◌⊎◌, ℕ, ◌+◌, ◌<◌, ◌≤◌, true, false, List, ◌∷◌, length, Some, Ok, Err, codes}
use Rattle.std.specs.List.{slice_get}
use Rattle.finite_sums.specs.Maps.{Text}
use Rattle.book_rows.specs.declared.fault.EditFault.{EditFault}
use Rattle.rule_engine.specs.Days.{day_of_text}
use Rattle.bank_import.specs.declared.entry.Entry.{Entry}
use Rattle.bank_import.specs.declared.entry.Columns.{Columns}
use Rattle.bank_import.specs.Statement.{amount_of_text, column_of, columns_of, is_good, text_in, bad_place, read_rows}

-- a record with as many fields as the header, whose fields say this
pub record IsEntry (c : Columns) (width : ℕ) (fs : List Text) (e : Entry) : Type 0 where
  pub len : length fs ≡ width
  pub date : (f : Text) × (slice_get fs c.date ≡ Some f) × (day_of_text f ≡ Some e.date)
  pub amount : (f : Text) × (slice_get fs c.amount ≡ Some f) × (amount_of_text f ≡ Some e.amount)
  pub payee : e.payee ≡ text_in c.payee fs
  pub notes : e.notes ≡ text_in c.notes fs
  pub id : e.id ≡ text_in c.id fs

-- one entry for each record, in order
pub record AreEntries (c : Columns) (width : ℕ) (rows : List (List Text)) (es : List Entry) : Type 0 where
  pub len : length es ≡ length rows
  pub each : (i : ℕ) (fs : List Text) (e : Entry) → slice_get rows i ≡ Some fs → slice_get es i ≡ Some e → IsEntry c width fs e

-- the first field that is none of its column
pub record IsFirstBad (c : Columns) (fs : List Text) (k : ℕ) : Type 0 where
  pub field : Text
  pub there : slice_get fs k ≡ Some field
  pub bad : is_good c k field ≡ false
  pub before : (j : ℕ) (f : Text) → j < k → slice_get fs j ≡ Some f → is_good c j f ≡ true

-- a record with more or fewer fields is bad behind its last one, any other at the first bad field
abbrev pub IsBadAt : Columns → ℕ → List Text → ℕ → Type 0
IsBadAt c width fs k = ((length fs ≢ width) × (k ≡ length fs)) ⊎ ((length fs ≡ width) × IsFirstBad c fs k)

-- the first bad record, the header being row 0
pub record IsRefused (c : Columns) (width : ℕ) (rows : List (List Text)) (fault : EditFault) : Type 0 where
  pub row : ℕ
  pub column : ℕ
  pub fields : List Text
  pub there : slice_get rows row ≡ Some fields
  pub bad : IsBadAt c width fields column
  pub before : (j : ℕ) (fs : List Text) → j < row → slice_get rows j ≡ Some fs → (e : Entry) × IsEntry c width fs e
  pub told : fault ≡ bad_place (1 + row) column

-- the first column of a name
pub record IsColumn (name : Text) (header : List Text) (k : ℕ) : Type 0 where
  pub there : slice_get header k ≡ Some name
  pub first : (j : ℕ) → slice_get header j ≡ Some name → k ≤ j

pub record LawOfReading : Type 0 where
  pub column : (name : Text) (header : List Text) (k : ℕ) → (column_of name header ≡ Some k) ↔ IsColumn name header k
  -- a header that lacks a column
  pub header : (header : List Text) (rows : List (List Text)) → ((k : ℕ) → IsColumn (codes "date") header k → ⊥) ⊎ ((k : ℕ) → IsColumn (codes "amount") header k → ⊥)
      → read_rows (header ∷ rows) ≡ Err (bad_place 0 (length header))
  -- any other: its records are entries, or there is a first bad place
  pub read : (header : List Text) (date amount : ℕ) (rows : List (List Text)) (es : List Entry) → IsColumn (codes "date") header date → IsColumn (codes "amount") header amount
      → (read_rows (header ∷ rows) ≡ Ok es) ↔ AreEntries (columns_of header date amount) (length header) rows es
  pub refused : (header : List Text) (date amount : ℕ) (rows : List (List Text)) (fault : EditFault) → IsColumn (codes "date") header date → IsColumn (codes "amount") header amount
      → (read_rows (header ∷ rows) ≡ Err fault) ↔ IsRefused (columns_of header date amount) (length header) rows fault
