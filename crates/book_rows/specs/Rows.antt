-- The rows of a book, and how they follow the values of fields.
use Rattle.std.specs.Prelude.{◌≡◌, Bool, false, Option, None, Some, is_some, if◌then◌else◌, codes}
use Rattle.std.specs.FinMap as map
use Rattle.field_values.specs.declared.value.Value.{Value}
use Rattle.field_values.specs.Names.{FieldNames, field_of, names_eq}
use Rattle.finite_sums.specs.Maps.{Text, Texts, some_and}
use Rattle.book_rows.specs.declared.column.Dataset.{Dataset}
use Rattle.book_rows.specs.declared.column.Dataset.TheVariants.{Accounts, CategoryGroups, Categories, Payees, Transactions, ZeroBudgets, ZeroBudgetMonths, Notes, Rules, Schedules, CategoryMapping, PayeeMapping, ReflectBudgets}
use Rattle.book_rows.specs.declared.column.Column.{Column}
use Rattle.book_rows.specs.declared.kind.Kind.{Kind}
use Rattle.book_rows.specs.declared.rows.Rows.{Rows}
use Rattle.book_rows.specs.Columns.{dataset_name, column_name, dataset_of, column_of}
use Rattle.book_rows.specs.Tables.{Table, has_column, row_at, with_column}
use Rattle.book_rows.specs.Rules.{account_table, group_table, category_table, payee_table, tx_table, budget_table, month_table, note_table, rule_table, schedule_table, category_mapping_table, payee_mapping_table}

-- the values that fields have
abbrev pub Values : Type 0
Values = FieldNames → Option Value

-- the values of an id's columns in a dataset
abbrev pub values_at : Values → Dataset → Text → Column → Option Value
values_at values dataset id column = values (field_of (dataset_name dataset) id (column_name column))

-- of each id the row that the values make, if they make one
abbrev pub AreTableOf : {Row : Type 0} → Table Row → Dataset → Values → Texts Row → Type 0
AreTableOf table dataset values rows = (id : Text) → map.get rows id ≡ row_at table id (values_at values dataset id)

-- the rows that the values of fields make, dataset by dataset
pub record AreRowsOf (values : Values) (rows : Rows) : Type 0 where
  pub accounts : AreTableOf account_table Accounts values rows.accounts
  pub groups : AreTableOf group_table CategoryGroups values rows.groups
  pub categories : AreTableOf category_table Categories values rows.categories
  pub payees : AreTableOf payee_table Payees values rows.payees
  pub txs : AreTableOf tx_table Transactions values rows.txs
  pub budgets : AreTableOf budget_table ZeroBudgets values rows.budgets
  pub months : AreTableOf month_table ZeroBudgetMonths values rows.months
  pub notes : AreTableOf note_table Notes values rows.notes
  pub rules : AreTableOf rule_table Rules values rows.rules
  pub schedules : AreTableOf schedule_table Schedules values rows.schedules
  pub category_mappings : AreTableOf category_mapping_table CategoryMapping values rows.category_mappings
  pub payee_mappings : AreTableOf payee_mapping_table PayeeMapping values rows.payee_mappings
  pub tracked : AreTableOf budget_table ReflectBudgets values rows.tracked

-- no rows at all
abbrev pub no_rows : Rows
no_rows = record {
  accounts = map.empty;
  groups = map.empty;
  categories = map.empty;
  payees = map.empty;
  txs = map.empty;
  budgets = map.empty;
  months = map.empty;
  notes = map.empty;
  rules = map.empty;
  schedules = map.empty;
  category_mappings = map.empty;
  payee_mappings = map.empty;
  tracked = map.empty;
}

-- the rows with another value in a column of a row
abbrev pub with_cell : Dataset → Text → Column → Value → Rows → Rows
with_cell Accounts id column value rows = record rows { accounts = with_column account_table id column value rows.accounts }
with_cell CategoryGroups id column value rows = record rows { groups = with_column group_table id column value rows.groups }
with_cell Categories id column value rows = record rows { categories = with_column category_table id column value rows.categories }
with_cell Payees id column value rows = record rows { payees = with_column payee_table id column value rows.payees }
with_cell Transactions id column value rows = record rows { txs = with_column tx_table id column value rows.txs }
with_cell ZeroBudgets id column value rows = record rows { budgets = with_column budget_table id column value rows.budgets }
with_cell ZeroBudgetMonths id column value rows = record rows { months = with_column month_table id column value rows.months }
with_cell Notes id column value rows = record rows { notes = with_column note_table id column value rows.notes }
with_cell Rules id column value rows = record rows { rules = with_column rule_table id column value rows.rules }
with_cell Schedules id column value rows = record rows { schedules = with_column schedule_table id column value rows.schedules }
with_cell CategoryMapping id column value rows = record rows { category_mappings = with_column category_mapping_table id column value rows.category_mappings }
with_cell PayeeMapping id column value rows = record rows { payee_mappings = with_column payee_mapping_table id column value rows.payee_mappings }
with_cell ReflectBudgets id column value rows = record rows { tracked = with_column budget_table id column value rows.tracked }

-- the rows with another value in a column of a row, where the dataset and the column are known
abbrev pub with_known : Option Dataset → Option Column → Text → Value → Rows → Rows
with_known None column id value rows = rows
with_known (Some dataset) None id value rows = rows
with_known (Some dataset) (Some column) id value rows = with_cell dataset id column value rows

-- the rows with another value in a field: a dataset or a column that is not known changes nothing
abbrev pub with_field : Rows → FieldNames → Value → Rows
with_field rows field value = with_known (dataset_of field.dataset) (column_of field.column) field.row value rows

-- the values with another one in a field
abbrev pub with_value : Values → FieldNames → Value → Values
with_value values field value other = if names_eq other field then Some value else values other

-- how a column of a dataset is read
abbrev pub dataset_kind : Dataset → Column → Option Kind
dataset_kind Accounts column = account_table.kind column
dataset_kind CategoryGroups column = group_table.kind column
dataset_kind Categories column = category_table.kind column
dataset_kind Payees column = payee_table.kind column
dataset_kind Transactions column = tx_table.kind column
dataset_kind ZeroBudgets column = budget_table.kind column
dataset_kind ZeroBudgetMonths column = month_table.kind column
dataset_kind Notes column = note_table.kind column
dataset_kind Rules column = rule_table.kind column
dataset_kind Schedules column = schedule_table.kind column
dataset_kind CategoryMapping column = category_mapping_table.kind column
dataset_kind PayeeMapping column = payee_mapping_table.kind column
dataset_kind ReflectBudgets column = budget_table.kind column

abbrev pub known_kind : Option Dataset → Option Column → Option Kind
known_kind None column = None
known_kind (Some dataset) None = None
known_kind (Some dataset) (Some column) = dataset_kind dataset column

-- how the column of a name is read in the dataset of a name, where both are known and the dataset has the column
abbrev pub kind_of : Text → Text → Option Kind
kind_of dataset column = known_kind (dataset_of dataset) (column_of column)

-- whether the rows of a dataset can be deleted
abbrev pub has_tombstone : Text → Bool
has_tombstone dataset = is_some (kind_of dataset (codes "tombstone"))

-- ---- which rows are there

-- a dataset has the row of an id; no row of a dataset that is not known is there
abbrev pub is_row : Rows → Option Dataset → Text → Bool
is_row rows None id = false
is_row rows (Some Accounts) id = is_some (map.get rows.accounts id)
is_row rows (Some CategoryGroups) id = is_some (map.get rows.groups id)
is_row rows (Some Categories) id = is_some (map.get rows.categories id)
is_row rows (Some Payees) id = is_some (map.get rows.payees id)
is_row rows (Some Transactions) id = is_some (map.get rows.txs id)
is_row rows (Some ZeroBudgets) id = is_some (map.get rows.budgets id)
is_row rows (Some ZeroBudgetMonths) id = is_some (map.get rows.months id)
is_row rows (Some Notes) id = is_some (map.get rows.notes id)
is_row rows (Some Rules) id = is_some (map.get rows.rules id)
is_row rows (Some Schedules) id = is_some (map.get rows.schedules id)
is_row rows (Some CategoryMapping) id = is_some (map.get rows.category_mappings id)
is_row rows (Some PayeeMapping) id = is_some (map.get rows.payee_mappings id)
is_row rows (Some ReflectBudgets) id = is_some (map.get rows.tracked id)

-- the row of a field is there: one of the columns that a book knows of it has a value
abbrev pub has_row : Values → FieldNames → Bool
has_row values f = some_and (λ dataset. has_column (dataset_kind dataset) (values_at values dataset f.row)) (dataset_of f.dataset)
