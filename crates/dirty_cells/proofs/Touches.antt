-- The transactions that changes touch, change by change.
use Rattle.std.specs.Prelude.{◌&&◌, List, [], ◌∷◌, Option, Some, None, is_some, if◌then◌else◌}
use Rattle.field_values.specs.declared.value.Value.{Value}
use Rattle.finite_sums.specs.Maps.{Text}
use Rattle.book_rows.specs.declared.rows.Rows.{Rows}
use Rattle.book_rows.specs.declared.column.Dataset.{Dataset}
use Rattle.book_rows.specs.declared.column.Dataset.TheVariants.{Accounts, Transactions, CategoryMapping}
use Rattle.book_rows.specs.declared.column.Column.{Column}
use Rattle.book_rows.specs.Columns.{dataset_of, column_of}
use Rattle.book_rows.specs.Rules.{account_table, tx_table, category_mapping_table}
use Rattle.book_rows.specs.Parts.{children_of, account_txs, category_txs}
use Rattle.dirty_cells.specs.Changes.{Change, Within, account_governs, tx_governs, mapping_governs}

-- the transactions that a change touches: the one whose row it sets, and those that the row governs
abbrev pub touched_by : Rows → Dataset → Column → Text → Value → List Text
touched_by r Accounts column id value = if is_some (account_table.kind column) && account_governs r id column value then account_txs r id else []
touched_by r Transactions column id value = if is_some (tx_table.kind column) then id ∷ (if tx_governs r id column value then children_of r id else []) else []
touched_by r CategoryMapping column id value = if is_some (category_mapping_table.kind column) && mapping_governs r id column value then category_txs r id else []
touched_by r other column id value = []

abbrev pub touched_known : Rows → Option Dataset → Option Column → Text → Value → List Text
touched_known r None column id value = []
touched_known r (Some dataset) None id value = []
touched_known r (Some dataset) (Some column) id value = touched_by r dataset column id value

abbrev pub touched : Rows → Change → List Text
touched r c = touched_known r (dataset_of c.0.dataset) (column_of c.0.column) c.0.row c.1

-- what each of the changes touches is among the ids
abbrev pub AreTouched : Rows → List Change → List Text → Type 0
AreTouched r [] ids = Unit {0}
AreTouched r (c ∷ cs) ids = Within (touched r c) ids × AreTouched r cs ids
