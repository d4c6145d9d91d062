-- The columns of transactions, and writes into them.
use Rattle.std.proofs.Common.{◌≡◌, ℕ, true, List, refl, codes}
use Rattle.std.specs.Prelude.{is_some}
use Rattle.field_values.specs.declared.value.Value.{Value}
use Rattle.finite_sums.specs.Maps.{Text}
use Rattle.book_rows.specs.declared.rows.TxRow.{TxRow}
use Rattle.book_rows.specs.declared.write.RowName.{RowName}
use Rattle.book_rows.specs.declared.write.RowName.TheVariants.{Given, Made}
use Rattle.book_rows.specs.declared.write.WriteValue.{WriteValue}
use Rattle.book_rows.specs.declared.write.WriteValue.TheVariants.{Plain}
use Rattle.book_rows.specs.declared.write.Write.{Write}
use Rattle.book_rows.specs.declared.column.Column.{Column}
use Rattle.book_rows.specs.declared.column.Column.TheVariants as of
use Rattle.book_rows.specs.Columns.{column_name}
use Rattle.book_rows.specs.Tables.{blank_row}
use Rattle.book_rows.specs.Rules.{tx_kind, with_tx_column, tx_table}
use Rattle.split_transfer.specs.Writing.{tx_write}
use Rattle.split_transfer.specs.Writing as writing

-- a column that transactions have
abbrev pub TxColumn : Type 0
TxColumn = (c : Column) × (is_some (tx_kind c) ≡ true)

abbrev pub Acct : TxColumn
Acct = (of.Acct, refl)

abbrev pub Date : TxColumn
Date = (of.Date, refl)

abbrev pub Amount : TxColumn
Amount = (of.Amount, refl)

abbrev pub Description : TxColumn
Description = (of.Description, refl)

abbrev pub Category : TxColumn
Category = (of.Category, refl)

abbrev pub Notes : TxColumn
Notes = (of.Notes, refl)

abbrev pub Cleared : TxColumn
Cleared = (of.Cleared, refl)

abbrev pub Schedule : TxColumn
Schedule = (of.Schedule, refl)

abbrev pub TransferredId : TxColumn
TransferredId = (of.TransferredId, refl)

abbrev pub IsParent : TxColumn
IsParent = (of.IsParent, refl)

abbrev pub IsChild : TxColumn
IsChild = (of.IsChild, refl)

abbrev pub ParentId : TxColumn
ParentId = (of.ParentId, refl)

abbrev pub Tombstone : TxColumn
Tombstone = (of.Tombstone, refl)

-- the row with another value in a column
abbrev pub with_column : TxColumn → Value → TxRow → TxRow
with_column c v x = with_tx_column c.0 v x

-- the row of an id of which no column is known
abbrev pub blank : Text → TxRow
blank id = blank_row tx_table id

-- a write into a transaction
pub record Put : Type 0 where
  pub row : RowName
  pub column : TxColumn
  pub value : WriteValue

abbrev pub as_write : Put → Write
as_write p = record { dataset = codes "transactions"; row = p.row; column = column_name p.column.0; value = p.value }

abbrev pub put : ℕ → TxColumn → Value → Put
put n c v = record { row = Made n; column = c; value = Plain v }

abbrev pub named : Text → TxColumn → Value → Write
named id c v = tx_write (Given id) (column_name c.0) v

abbrev pub made : ℕ → TxColumn → Value → Write
made n c v = tx_write (Made n) (column_name c.0) v

abbrev pub on_each : TxColumn → Value → List Text → List Write
on_each c v ids = writing.on_each (column_name c.0) v ids

-- to set a column twice is to set it once
set_twice : (c : Column) (v : Value) (x : TxRow) → with_tx_column c v (with_tx_column c v x) ≡ with_tx_column c v x
set_twice of.Acct v x = refl
set_twice of.Date v x = refl
set_twice of.Amount v x = refl
set_twice of.Category v x = refl
set_twice of.Description v x = refl
set_twice of.Notes v x = refl
set_twice of.Name v x = refl
set_twice of.Tombstone v x = refl
set_twice of.SortOrder v x = refl
set_twice of.Cleared v x = refl
set_twice of.Reconciled v x = refl
set_twice of.Note v x = refl
set_twice of.IsParent v x = refl
set_twice of.IsChild v x = refl
set_twice of.ParentId v x = refl
set_twice of.TransferredId v x = refl
set_twice of.Schedule v x = refl
set_twice of.ImportedDescription v x = refl
set_twice of.FinancialId v x = refl
set_twice of.CatGroup v x = refl
set_twice of.IsIncome v x = refl
set_twice of.Hidden v x = refl
set_twice of.Offbudget v x = refl
set_twice of.Closed v x = refl
set_twice of.TransferAcct v x = refl
set_twice of.Month v x = refl
set_twice of.Carryover v x = refl
set_twice of.Buffered v x = refl
set_twice of.Stage v x = refl
set_twice of.ConditionsOp v x = refl
set_twice of.Conditions v x = refl
set_twice of.Actions v x = refl
set_twice of.Rule v x = refl
set_twice of.NextDate v x = refl
set_twice of.Completed v x = refl
set_twice of.PostsTransaction v x = refl
set_twice of.TransferId v x = refl
set_twice of.TargetId v x = refl

pub twice : (c : TxColumn) (v : Value) (x : TxRow) → with_column c v (with_column c v x) ≡ with_column c v x
twice c v x = set_twice c.0 v x
