-- The datasets that make the rows of a book, and which column each field of a row is.
use Rattle.std.specs.Prelude.{◌≡◌, ◌↔◌, pos, ℤ, ℕ, Bool, false, List, [], ◌∷◌, map as list_map, Option, None, Some, unwrap_or, codes}
use Rattle.std.specs.List.{AllByRecursion}
use Rattle.std.specs.FinMap as map
use Rattle.field_values.specs.declared.value.Value.{Value}
use Rattle.field_values.specs.declared.value.Value.TheVariants.{Null}
use Rattle.field_values.specs.Names.{field_of}
use Rattle.finite_sums.specs.Maps.{Text, Texts, text_cmp, is_among}
use Rattle.book_rows.specs.declared.kind.Kind.{Kind}
use Rattle.book_rows.specs.declared.kind.Kind.TheVariants.{Flag, Int, Day, Text as Words}
use Rattle.book_rows.specs.declared.rows.Rows.{Rows}
use Rattle.book_rows.specs.declared.rows.AccountRow.{AccountRow}
use Rattle.book_rows.specs.declared.rows.GroupRow.{GroupRow}
use Rattle.book_rows.specs.declared.rows.CategoryRow.{CategoryRow}
use Rattle.book_rows.specs.declared.rows.PayeeRow.{PayeeRow}
use Rattle.book_rows.specs.declared.rows.TxRow.{TxRow}
use Rattle.book_rows.specs.declared.rows.BudgetRow.{BudgetRow}
use Rattle.book_rows.specs.declared.rows.MonthRow.{MonthRow}
use Rattle.book_rows.specs.declared.rows.NoteRow.{NoteRow}
use Rattle.book_rows.specs.declared.rows.RuleRow.{RuleRow}
use Rattle.book_rows.specs.declared.rows.ScheduleRow.{ScheduleRow}
use Rattle.book_rows.specs.declared.rows.CategoryMappingRow.{CategoryMappingRow}
use Rattle.book_rows.specs.declared.rows.PayeeMappingRow.{PayeeMappingRow}
use Rattle.book_rows.specs.Kinds.{flag_of, int_of, text_of, day_of}
use Rattle.book_rows.specs.Rows.{Values, AreRowsOf, with_field, kind_of}

-- ---- what a column is, and a dataset

-- a column: its name, how its values are read, and the row with another value in it
pub record ColumnOf (Row : Type 0) : Type 0 where
  pub name : Text
  pub kind : Kind
  pub set : Value → Row → Row

-- a column of each kind, by the field that it sets
abbrev pub flag : {Row : Type 0} → Text → (Bool → Row → Row) → ColumnOf Row
flag name set = record { name = name; kind = Flag; set = λ v row. set (flag_of v) row }

abbrev pub int : {Row : Type 0} → Text → (ℤ → Row → Row) → ColumnOf Row
int name set = record { name = name; kind = Int; set = λ v row. set (int_of v) row }

abbrev pub text : {Row : Type 0} → Text → (Option Text → Row → Row) → ColumnOf Row
text name set = record { name = name; kind = Words; set = λ v row. set (text_of v) row }

abbrev pub day : {Row : Type 0} → Text → (Option ℕ → Row → Row) → ColumnOf Row
day name set = record { name = name; kind = Day; set = λ v row. set (day_of v) row }

-- a dataset: its name, its columns, the row of an id of which nothing is told, the id of a row, and the rows of the dataset among all rows
pub record DatasetOf (Row : Type 0) : Type 0 where
  pub name : Text
  pub columns : List (ColumnOf Row)
  pub blank : Text → Row
  pub id : Row → Text
  pub among : Rows → Texts Row
  pub with_these : Texts Row → Rows → Rows

-- ---- the datasets

abbrev pub accounts : DatasetOf AccountRow
accounts = record {
  name = codes "accounts";
  columns =
      text (codes "name") (λ v a. record a { name = v })
      ∷ flag (codes "offbudget") (λ v a. record a { offbudget = v })
      ∷ flag (codes "closed") (λ v a. record a { closed = v })
      ∷ int (codes "sort_order") (λ v a. record a { sort_order = v })
      ∷ flag (codes "tombstone") (λ v a. record a { tombstone = v })
      ∷ [];
  blank = λ id. record { id = id; name = None; offbudget = false; closed = false; sort_order = pos 0; tombstone = false };
  id = λ a. a.id;
  among = λ rows. rows.accounts;
  with_these = λ these rows. record rows { accounts = these };
}

abbrev pub groups : DatasetOf GroupRow
groups = record {
  name = codes "category_groups";
  columns =
      text (codes "name") (λ v g. record g { name = v })
      ∷ flag (codes "is_income") (λ v g. record g { is_income = v })
      ∷ int (codes "sort_order") (λ v g. record g { sort_order = v })
      ∷ flag (codes "hidden") (λ v g. record g { hidden = v })
      ∷ flag (codes "tombstone") (λ v g. record g { tombstone = v })
      ∷ [];
  blank = λ id. record { id = id; name = None; is_income = false; sort_order = pos 0; hidden = false; tombstone = false };
  id = λ g. g.id;
  among = λ rows. rows.groups;
  with_these = λ these rows. record rows { groups = these };
}

abbrev pub categories : DatasetOf CategoryRow
categories = record {
  name = codes "categories";
  columns =
      text (codes "name") (λ v c. record c { name = v })
      ∷ text (codes "cat_group") (λ v c. record c { cat_group = v })
      ∷ flag (codes "is_income") (λ v c. record c { is_income = v })
      ∷ int (codes "sort_order") (λ v c. record c { sort_order = v })
      ∷ flag (codes "hidden") (λ v c. record c { hidden = v })
      ∷ flag (codes "tombstone") (λ v c. record c { tombstone = v })
      ∷ [];
  blank = λ id. record { id = id; name = None; cat_group = None; is_income = false; sort_order = pos 0; hidden = false; tombstone = false };
  id = λ c. c.id;
  among = λ rows. rows.categories;
  with_these = λ these rows. record rows { categories = these };
}

abbrev pub payees : DatasetOf PayeeRow
payees = record {
  name = codes "payees";
  columns =
      text (codes "name") (λ v p. record p { name = v })
      ∷ text (codes "transfer_acct") (λ v p. record p { transfer_acct = v })
      ∷ flag (codes "tombstone") (λ v p. record p { tombstone = v })
      ∷ [];
  blank = λ id. record { id = id; name = None; transfer_acct = None; tombstone = false };
  id = λ p. p.id;
  among = λ rows. rows.payees;
  with_these = λ these rows. record rows { payees = these };
}

abbrev pub transactions : DatasetOf TxRow
transactions = record {
  name = codes "transactions";
  columns =
      text (codes "acct") (λ v x. record x { acct = v })
      ∷ day (codes "date") (λ v x. record x { date = v })
      ∷ int (codes "amount") (λ v x. record x { amount = v })
      ∷ text (codes "description") (λ v x. record x { description = v })
      ∷ text (codes "category") (λ v x. record x { category = v })
      ∷ text (codes "notes") (λ v x. record x { notes = v })
      ∷ text (codes "imported_description") (λ v x. record x { imported_description = v })
      ∷ text (codes "financial_id") (λ v x. record x { financial_id = v })
      ∷ text (codes "transferred_id") (λ v x. record x { transferred_id = v })
      ∷ text (codes "schedule") (λ v x. record x { schedule = v })
      ∷ flag (codes "isParent") (λ v x. record x { is_parent = v })
      ∷ flag (codes "isChild") (λ v x. record x { is_child = v })
      ∷ text (codes "parent_id") (λ v x. record x { parent_id = v })
      ∷ flag (codes "cleared") (λ v x. record x { cleared = v })
      ∷ flag (codes "reconciled") (λ v x. record x { reconciled = v })
      ∷ int (codes "sort_order") (λ v x. record x { sort_order = v })
      ∷ flag (codes "tombstone") (λ v x. record x { tombstone = v })
      ∷ [];
  blank = λ id. record {
    id = id;
    acct = None;
    date = None;
    amount = pos 0;
    description = None;
    category = None;
    notes = None;
    imported_description = None;
    financial_id = None;
    transferred_id = None;
    schedule = None;
    is_parent = false;
    is_child = false;
    parent_id = None;
    cleared = false;
    reconciled = false;
    sort_order = pos 0;
    tombstone = false;
  };
  id = λ x. x.id;
  among = λ rows. rows.txs;
  with_these = λ these rows. record rows { txs = these };
}

-- what categories are given has the same columns in both budgets
abbrev pub budget_columns : List (ColumnOf BudgetRow)
budget_columns =
    int (codes "month") (λ v b. record b { month = v })
    ∷ text (codes "category") (λ v b. record b { category = v })
    ∷ int (codes "amount") (λ v b. record b { amount = v })
    ∷ flag (codes "carryover") (λ v b. record b { carryover = v })
    ∷ []

abbrev pub budgets : DatasetOf BudgetRow
budgets = record {
  name = codes "zero_budgets";
  columns = budget_columns;
  blank = λ id. record { id = id; month = pos 0; category = None; amount = pos 0; carryover = false };
  id = λ b. b.id;
  among = λ rows. rows.budgets;
  with_these = λ these rows. record rows { budgets = these };
}

abbrev pub tracked : DatasetOf BudgetRow
tracked = record {
  name = codes "reflect_budgets";
  columns = budget_columns;
  blank = λ id. record { id = id; month = pos 0; category = None; amount = pos 0; carryover = false };
  id = λ b. b.id;
  among = λ rows. rows.tracked;
  with_these = λ these rows. record rows { tracked = these };
}

abbrev pub months : DatasetOf MonthRow
months = record {
  name = codes "zero_budget_months";
  columns = int (codes "buffered") (λ v m. record m { buffered = v }) ∷ [];
  blank = λ id. record { id = id; buffered = pos 0 };
  id = λ m. m.id;
  among = λ rows. rows.months;
  with_these = λ these rows. record rows { months = these };
}

abbrev pub notes : DatasetOf NoteRow
notes = record {
  name = codes "notes";
  columns = text (codes "note") (λ v n. record n { note = v }) ∷ [];
  blank = λ id. record { id = id; note = None };
  id = λ n. n.id;
  among = λ rows. rows.notes;
  with_these = λ these rows. record rows { notes = these };
}

abbrev pub rules : DatasetOf RuleRow
rules = record {
  name = codes "rules";
  columns =
      text (codes "stage") (λ v r. record r { stage = v })
      ∷ text (codes "conditions_op") (λ v r. record r { conditions_op = v })
      ∷ text (codes "conditions") (λ v r. record r { conditions = v })
      ∷ text (codes "actions") (λ v r. record r { actions = v })
      ∷ flag (codes "tombstone") (λ v r. record r { tombstone = v })
      ∷ [];
  blank = λ id. record { id = id; stage = None; conditions_op = None; conditions = None; actions = None; tombstone = false };
  id = λ r. r.id;
  among = λ rows. rows.rules;
  with_these = λ these rows. record rows { rules = these };
}

abbrev pub schedules : DatasetOf ScheduleRow
schedules = record {
  name = codes "schedules";
  columns =
      text (codes "rule") (λ v s. record s { rule = v })
      ∷ text (codes "name") (λ v s. record s { name = v })
      ∷ day (codes "next_date") (λ v s. record s { next_date = v })
      ∷ flag (codes "completed") (λ v s. record s { completed = v })
      ∷ flag (codes "posts_transaction") (λ v s. record s { posts_transaction = v })
      ∷ flag (codes "tombstone") (λ v s. record s { tombstone = v })
      ∷ [];
  blank = λ id. record { id = id; rule = None; name = None; next_date = None; completed = false; posts_transaction = false; tombstone = false };
  id = λ s. s.id;
  among = λ rows. rows.schedules;
  with_these = λ these rows. record rows { schedules = these };
}

abbrev pub category_mappings : DatasetOf CategoryMappingRow
category_mappings = record {
  name = codes "category_mapping";
  columns = text (codes "transferId") (λ v m. record m { transfer_id = v }) ∷ [];
  blank = λ id. record { id = id; transfer_id = None };
  id = λ m. m.id;
  among = λ rows. rows.category_mappings;
  with_these = λ these rows. record rows { category_mappings = these };
}

abbrev pub payee_mappings : DatasetOf PayeeMappingRow
payee_mappings = record {
  name = codes "payee_mapping";
  columns = text (codes "targetId") (λ v m. record m { target_id = v }) ∷ [];
  blank = λ id. record { id = id; target_id = None };
  id = λ m. m.id;
  among = λ rows. rows.payee_mappings;
  with_these = λ these rows. record rows { payee_mappings = these };
}

abbrev pub dataset_names : List Text
dataset_names =
    accounts.name ∷ groups.name ∷ categories.name ∷ payees.name ∷ transactions.name ∷ budgets.name ∷ tracked.name ∷ months.name ∷ notes.name ∷ rules.name
    ∷ schedules.name ∷ category_mappings.name ∷ payee_mappings.name ∷ []

-- ---- the law

-- the value of a column of an id; where it has none, null
abbrev pub said : Values → Text → Text → Text → Value
said values dataset id column = unwrap_or (values (field_of dataset id column)) Null

-- the rows of a dataset are what its columns say
pub record IsTold {Row : Type 0} (d : DatasetOf Row) : Type 0 where
  -- a value that is given to a column of an id stands, read as the column is, in the field of that column in the row of the id. Each other
  -- field of the row, each other row and each other dataset is as before; and where the row wasn't there, nothing else is told in it
  pub set : (rows : Rows) (id : Text) (value : Value)
      → AllByRecursion (λ c. with_field rows (field_of d.name id c.name) value ≡ d.with_these (map.insert (d.among rows) id (c.set value (unwrap_or (map.get (d.among rows) id) (d.blank id)))) rows) d.columns
  -- each field of a row says what the values of the fields say in the column: to set it to that changes nothing. And the row has its id
  pub read : (values : Values) (rows : Rows) (id : Text) (row : Row) → AreRowsOf values rows → map.get (d.among rows) id ≡ Some row
      → (d.id row ≡ id) × AllByRecursion (λ c. c.set (said values d.name id c.name) row ≡ row) d.columns
  -- there is no row of an id where none of its columns has a value, and nowhere else
  pub none : (values : Values) (rows : Rows) (id : Text) → AreRowsOf values rows → (map.get (d.among rows) id ≡ None) ↔ AllByRecursion (λ c. values (field_of d.name id c.name) ≡ None) d.columns
  -- how each column is read
  pub kinds : AllByRecursion (λ c. kind_of d.name c.name ≡ Some c.kind) d.columns
  -- no other name is that of a column: it isn't read, and changes nothing
  pub others : (column : Text) → is_among text_cmp (list_map (λ c. c.name) d.columns) column ≡ false
      → (kind_of d.name column ≡ None) × ((rows : Rows) (id : Text) (value : Value) → with_field rows (field_of d.name id column) value ≡ rows)

-- so it is in each dataset
pub record ColumnsAreTold : Type 0 where
  pub accounts : IsTold accounts
  pub groups : IsTold groups
  pub categories : IsTold categories
  pub payees : IsTold payees
  pub transactions : IsTold transactions
  pub budgets : IsTold budgets
  pub tracked : IsTold tracked
  pub months : IsTold months
  pub notes : IsTold notes
  pub rules : IsTold rules
  pub schedules : IsTold schedules
  pub category_mappings : IsTold category_mappings
  pub payee_mappings : IsTold payee_mappings
  -- and no other name is that of a dataset
  pub others : (dataset : Text) → is_among text_cmp dataset_names dataset ≡ false → (rows : Rows) (id column : Text) (value : Value) → with_field rows (field_of dataset id column) value ≡ rows
