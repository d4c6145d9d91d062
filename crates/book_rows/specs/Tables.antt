-- Tables: how the values of fields make the rows of a dataset.
use Rattle.std.specs.Prelude.{◌≡◌, Bool, ◌&&◌, Option, None, Some, is_some, unwrap_or, if◌then◌else◌}
use Rattle.std.specs.List.{list_any}
use Rattle.std.specs.Coded.{Coded, coded_list, coded_ℕ}
use Rattle.std.specs.FinMap as map
use Rattle.field_values.specs.Names.{IsName}
use Rattle.field_values.specs.declared.value.Value.{Value}
use Rattle.field_values.specs.declared.value.Value.TheVariants.{Null}
use Rattle.finite_sums.specs.Maps.{Text, Texts}
use Rattle.book_rows.specs.declared.column.Column.{Column}
use Rattle.book_rows.specs.declared.kind.Kind.{Kind}
use Rattle.book_rows.specs.Columns.{all_columns}

-- what a dataset's rows are
pub record Table (Row : Type 0) : Type 0 where
  -- the kinds of its columns; a column without a kind is none of the dataset
  pub kind : Column → Option Kind
  -- the row of an id whose columns have these values
  pub row : Text → (Column → Value) → Row
  -- the row with another value in a column
  pub set : Column → Value → Row → Row

-- the row of an id of which no column is known
abbrev pub blank_row : {Row : Type 0} → Table Row → Text → Row
blank_row table id = table.row id (λ column. Null)

-- a column of the dataset has a value
abbrev pub has_column : (Column → Option Kind) → (Column → Option Value) → Bool
has_column kind value = list_any (λ column. is_some (kind column) && is_some (value column)) all_columns

-- the row of an id: it is there where one of its columns has a value, and a column without a value is read as null
abbrev pub row_at : {Row : Type 0} → Table Row → Text → (Column → Option Value) → Option Row
row_at table id value = if has_column table.kind value then Some (table.row id (λ column. unwrap_or (value column) Null)) else None

-- the rows with another value in a column of an id, whose row is made where it is not there. A column that is none of the dataset changes nothing
abbrev pub with_column : {Row : Type 0} → Table Row → Text → Column → Value → Texts Row → Texts Row
with_column table id column value rows =
    if is_some (table.kind column) then map.insert rows id (table.set column value (unwrap_or (map.get rows id) (blank_row table id))) else rows

-- how rows by id are stored: as a map from texts
abbrev pub texts_code : {X : Type 0} → Coded X → Coded (Texts X)
texts_code code = map.code (coded_list coded_ℕ) code

-- each id that has a row is a name
abbrev pub AreNamed : {Row : Type 0} → Texts Row → Type 0
AreNamed {Row} rows = (id : Text) (x : Row) → map.get rows id ≡ Some x → IsName id
