-- What a statement says: the entries of a CSV text, or the place of its first bad field.
use Rattle.std.specs.Prelude.{ℕ, ◌+◌, ◌-◌, ◌*◌, nat_lt, ◌==◌, min, Bool, ◌&&◌, ◌||◌, not, ℤ, pos, neg_ℤ, List, [], ◌∷◌, length, Option, Some, None, is_some, unwrap_or, Result, Ok, Err, if◌then◌else◌, slice_index_or, codes}
use Rattle.std.specs.Option.{option_map}
use Rattle.std.specs.Str.{bytes_eq}
use Rattle.csv.specs.Reading.{records, default_config, strip_bom}
use Rattle.field_values.specs.Value.{HoldsNumber}
use Rattle.finite_sums.specs.Maps.{Text}
use Rattle.book_rows.specs.declared.fault.EditFault.{EditFault}
use Rattle.book_rows.specs.declared.fault.EditFault.TheVariants.{BadStatement}
use Rattle.book_edits.specs.Faults.{◌>>=◌}
use Rattle.rule_engine.specs.Days.{is_digit, day_of_text}
use Rattle.rule_engine.specs.Reading.{largest_place}
use Rattle.bank_import.specs.declared.entry.Entry.{Entry}
use Rattle.bank_import.specs.declared.entry.Columns.{Columns}

-- ---- amounts: an optional -, 1 to 13 digits, and optionally a point with one or two digits

-- the cents of a whole number and what follows it
abbrev pub fraction : ℕ → Text → Option ℕ
fraction whole (p ∷ a ∷ []) = if (p == 46) && is_digit a then Some (whole * 100 + (a - 48) * 10) else None
fraction whole (p ∷ a ∷ b ∷ []) = if (p == 46) && is_digit a && is_digit b then Some (whole * 100 + (a - 48) * 10 + (b - 48)) else None
fraction whole _ = None

-- the cents of a text, of which so many digits were read, that make this whole number
abbrev pub cents_from : ℕ → ℕ → Text → Option ℕ
cents_from whole digits [] = if digits == 0 then None else Some (whole * 100)
cents_from whole digits (b ∷ bs) =
    if is_digit b then (if nat_lt digits 13 then cents_from (whole * 10 + (b - 48)) (digits + 1) bs else None)
    else (if digits == 0 then None else fraction whole (b ∷ bs))

unfoldable pub amount_of_text : Text → Option ℤ
amount_of_text [] = None
amount_of_text (b ∷ bs) = if b == 45 then option_map (λ n. neg_ℤ (pos n)) (cents_from 0 0 bs) else option_map (λ n. pos n) (cents_from 0 0 (b ∷ bs))

-- ---- the header

-- the first column of a name
abbrev pub column_from : Text → ℕ → List Text → Option ℕ
column_from name k [] = None
column_from name k (f ∷ fs) = if bytes_eq f name then Some k else column_from name (k + 1) fs

abbrev pub column_of : Text → List Text → Option ℕ
column_of name header = column_from name 0 header

-- ---- records

-- a field is good but in a column of days or amounts, if it is none
abbrev pub is_good : Columns → ℕ → Text → Bool
is_good c k f = (not (k == c.date) || is_some (day_of_text f)) && (not (k == c.amount) || is_some (amount_of_text f))

-- the first column, from one on, whose field is bad
abbrev pub bad_from : Columns → ℕ → List Text → Option ℕ
bad_from c k [] = None
bad_from c k (f ∷ fs) = if is_good c k f then bad_from c (k + 1) fs else Some k

abbrev pub field : List Text → ℕ → Text
field fs k = slice_index_or fs k []

-- an empty text is none
abbrev pub or_none : Text → Option Text
or_none [] = None
or_none (b ∷ bs) = Some (b ∷ bs)

-- the text in a column that may not be there
abbrev pub text_in : Option ℕ → List Text → Option Text
text_in None fs = None
text_in (Some k) fs = or_none (field fs k)

abbrev pub columns_of : List Text → ℕ → ℕ → Columns
columns_of header date amount = record {
  date = date;
  amount = amount;
  payee = column_of (codes "payee") header;
  notes = column_of (codes "notes") header;
  id = column_of (codes "id") header;
}

abbrev pub entry_of : Columns → List Text → Entry
entry_of c fs = record {
  date = unwrap_or (day_of_text (field fs c.date)) 0;
  amount = unwrap_or (amount_of_text (field fs c.amount)) (pos 0);
  payee = text_in c.payee fs;
  notes = text_in c.notes fs;
  id = text_in c.id fs;
}

-- this place is bad: the header is row 0, the first column 0. A number of more than 32 bits is told as the greatest of 32 bits
abbrev pub bad_place : ℕ → ℕ → EditFault
bad_place row column = BadStatement (min row largest_place) (min column largest_place)

abbrev pub entry_unless : Columns → ℕ → List Text → Option ℕ → Result Entry EditFault
entry_unless c row fs None = Ok (entry_of c fs)
entry_unless c row fs (Some k) = Err (bad_place row k)

-- a record has as many fields as the header, and they are good
abbrev pub read_record : Columns → ℕ → ℕ → List Text → Result Entry EditFault
read_record c width row fs = if length fs == width then entry_unless c row fs (bad_from c 0 fs) else Err (bad_place row (length fs))

-- the records from a row on
abbrev pub read_records : Columns → ℕ → ℕ → List (List Text) → Result (List Entry) EditFault
read_records c width row [] = Ok []
read_records c width row (fs ∷ rows) = do
  e ← read_record c width row fs
  es ← read_records c width (row + 1) rows
  Ok (e ∷ es)

-- the rows under a header, which has to name the days and the amounts
abbrev pub read_under : List Text → Option ℕ → Option ℕ → List (List Text) → Result (List Entry) EditFault
read_under header None amount rows = Err (bad_place 0 (length header))
read_under header (Some date) None rows = Err (bad_place 0 (length header))
read_under header (Some date) (Some amount) rows = read_records (columns_of header date amount) (length header) 1 rows

abbrev pub read_rows : List (List Text) → Result (List Entry) EditFault
read_rows [] = Err (bad_place 0 0)
read_rows (header ∷ rows) = read_under header (column_of (codes "date") header) (column_of (codes "amount") header) rows

-- the records of a CSV text, the header's among them: fields stand apart by commas, and may stand in quotes. An empty line is none
unfoldable pub rows_in : Text → List (List Text)
rows_in text = records default_config (strip_bom text)

-- the entries of a statement, or its first bad place
unfoldable pub statement : Text → Result (List Entry) EditFault
statement text = read_rows (rows_in text)

-- the amount and the day are numbers that a value holds
pub record HasNumbers (e : Entry) : Type 0 where
  pub date : HoldsNumber (pos e.date)
  pub amount : HoldsNumber e.amount
