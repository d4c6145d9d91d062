-- Which rows are there, and what an undo leaves of those that were there before an edit, and of those that it made.
use Rattle.std.specs.Prelude.{◌≡◌, ◌↔◌, ℕ, Bool, true, List, map as list_map, None, Some, unwrap_or}
use Rattle.std.specs.List.{AllByRecursion}
use Rattle.std.specs.FinMap as map
use Rattle.field_values.specs.declared.value.Value.{Value}
use Rattle.field_values.specs.Names.{FieldNames, field_of}
use Rattle.finite_sums.specs.Maps.{Text, Texts}
use Rattle.book_rows.specs.declared.kind.Kind.{Kind}
use Rattle.book_rows.specs.declared.rows.Rows.{Rows}
use Rattle.book_rows.specs.declared.rows.TxRow.{TxRow}
use Rattle.book_rows.specs.Live.{category_of, payee_of}
use Rattle.book_rows.specs.Rows.{Values, AreRowsOf, kind_of, has_tombstone, has_row}
use Rattle.book_rows.specs.Rules.{budget_table, month_table, note_table, category_mapping_table, payee_mapping_table}
use Rattle.book_rows.specs.Tables.{Table, blank_row}
use Rattle.edit_history.specs.Undo.{entry_over, undo_values}
use Rattle.edit_history.specs.Laws.{with_values}
use Rattle.envelope_cells.specs.BudgetOf.{budgeted, carries, buffered, budget_of}

-- a column that a book knows of the dataset of a field has a value in the row of the field
pub record HasKnownValue (values : Values) (f : FieldNames) : Type 0 where
  pub column : Text
  pub kind : Kind
  pub known : kind_of f.dataset column ≡ Some kind
  pub value : Value
  pub has : values (field_of f.dataset f.row column) ≡ Some value

-- the values after an edit that writes these, and after its undo
abbrev pub undone_values : Values → List (FieldNames × Value) → Values
undone_values values ws = with_values (with_values values ws) (undo_values (entry_over values (list_map (λ w. w.0) ws)))

-- ---- rows that an edit made

-- each row that is there after an edit, and wasn't before, is deleted after the undo
abbrev pub AreGone : {Row : Type 0} → (Row → Bool) → Texts Row → Texts Row → Texts Row → Type 0
AreGone {Row} tombstone before after undone = (id : Text) (x : Row) → map.get before id ≡ None → map.get after id ≡ Some x → (y : Row) × (map.get undone id ≡ Some y) × (tombstone y ≡ true)

-- in each dataset whose rows can be deleted
pub record MadeRowsAreGone (before after undone : Rows) : Type 0 where
  pub accounts : AreGone (λ x. x.tombstone) before.accounts after.accounts undone.accounts
  pub groups : AreGone (λ x. x.tombstone) before.groups after.groups undone.groups
  pub categories : AreGone (λ x. x.tombstone) before.categories after.categories undone.categories
  pub payees : AreGone (λ x. x.tombstone) before.payees after.payees undone.payees
  pub transactions : AreGone (λ x. x.tombstone) before.txs after.txs undone.txs
  pub rules : AreGone (λ x. x.tombstone) before.rules after.rules undone.rules
  pub schedules : AreGone (λ x. x.tombstone) before.schedules after.schedules undone.schedules

-- ---- rows that were there

-- each row that was there is as it was
abbrev pub AreAgain : {Row : Type 0} → Texts Row → Texts Row → Type 0
AreAgain {Row} before undone = (id : Text) (x : Row) → map.get before id ≡ Some x → map.get undone id ≡ Some x

-- each row, be it there or not, says what it said, where one that isn't there says nothing
abbrev pub SayTheSame : {Row : Type 0} → Table Row → Texts Row → Texts Row → Type 0
SayTheSame table before undone = (id : Text) → unwrap_or (map.get undone id) (blank_row table id) ≡ unwrap_or (map.get before id) (blank_row table id)

-- the rows that were there are so in each dataset, and those that can't be deleted say what they said
pub record RowsAreAgain (before undone : Rows) : Type 0 where
  pub accounts : AreAgain before.accounts undone.accounts
  pub groups : AreAgain before.groups undone.groups
  pub categories : AreAgain before.categories undone.categories
  pub payees : AreAgain before.payees undone.payees
  pub transactions : AreAgain before.txs undone.txs
  pub rules : AreAgain before.rules undone.rules
  pub schedules : AreAgain before.schedules undone.schedules
  pub budgets : SayTheSame budget_table before.budgets undone.budgets
  pub tracked : SayTheSame budget_table before.tracked undone.tracked
  pub months : SayTheSame month_table before.months undone.months
  pub notes : SayTheSame note_table before.notes undone.notes
  pub category_mappings : SayTheSame category_mapping_table before.category_mappings undone.category_mappings
  pub payee_mappings : SayTheSame payee_mapping_table before.payee_mappings undone.payee_mappings
  -- so each transaction is of the category and of the payee that it was of
  pub category : (x : TxRow) → category_of undone x ≡ category_of before x
  pub payee : (x : TxRow) → payee_of undone x ≡ payee_of before x
  -- and in each month categories are given what they were, and carry over where they did, and the same is held back
  pub given : (c : Text) (month : ℕ) → budgeted undone c month ≡ budgeted before c month
  pub carried : (c : Text) (month : ℕ) → carries undone c month ≡ carries before c month
  pub held : (month : ℕ) → buffered undone month ≡ buffered before month

-- ---- edits that make no row that can be deleted

-- a row that is written is there, or can't be deleted
abbrev pub MakeNone : Values → List (FieldNames × Value) → Type 0
MakeNone values ws = AllByRecursion (λ w. has_tombstone w.0.dataset ≡ true → has_row values w.0 ≡ true) ws

-- no trace is left of it
pub record AreAsBefore (before undone : Rows) : Type 0 where
  pub again : RowsAreAgain before undone
  pub accounts : undone.accounts ≡ before.accounts
  pub groups : undone.groups ≡ before.groups
  pub categories : undone.categories ≡ before.categories
  pub payees : undone.payees ≡ before.payees
  pub transactions : undone.txs ≡ before.txs
  pub rules : undone.rules ≡ before.rules
  pub schedules : undone.schedules ≡ before.schedules
  -- so each sheet is made of what it was
  pub sheets : budget_of undone ≡ budget_of before

pub record RowsAreUndone : Type 0 where
  -- an entry tells a row as there exactly where such a column of it has a value
  pub there : (values : Values) (f : FieldNames) → (has_row values f ≡ true) ↔ HasKnownValue values f
  -- the rows of the values before an edit, after it, and after its undo
  pub gone : (values : Values) (ws : List (FieldNames × Value)) (before after undone : Rows) → AreRowsOf values before → AreRowsOf (with_values values ws) after → AreRowsOf (undone_values values ws) undone
      → MadeRowsAreGone before after undone
  pub again : (values : Values) (ws : List (FieldNames × Value)) (before undone : Rows) → AreRowsOf values before → AreRowsOf (undone_values values ws) undone → RowsAreAgain before undone
  pub as_before : (values : Values) (ws : List (FieldNames × Value)) (before undone : Rows) → MakeNone values ws → AreRowsOf values before → AreRowsOf (undone_values values ws) undone → AreAsBefore before undone
