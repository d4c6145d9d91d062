-- The columns of each dataset, their kinds, and the row that their values make.
use Rattle.std.specs.Prelude.{Option, None, Some}
use Rattle.field_values.specs.declared.value.Value.{Value}
use Rattle.finite_sums.specs.Maps.{Text}
use Rattle.book_rows.specs.declared.column.Column.{Column}
use Rattle.book_rows.specs.declared.column.Column.TheVariants.{Acct, Date, Amount, Category, Description, Notes, Name, Tombstone, SortOrder, Cleared, Reconciled, Note, IsParent, IsChild, ParentId, TransferredId, Schedule, ImportedDescription, FinancialId, CatGroup, IsIncome, Hidden, Offbudget, Closed, TransferAcct, Month, Carryover, Buffered, Stage, ConditionsOp, Conditions, Actions, Rule, NextDate, Completed, PostsTransaction, TransferId, TargetId}
use Rattle.book_rows.specs.declared.kind.Kind.{Kind}
use Rattle.book_rows.specs.declared.kind.Kind.TheVariants.{Flag, Int, Day, Text as Words}
use Rattle.book_rows.specs.Kinds.{flag_of, int_of, text_of, day_of}
use Rattle.book_rows.specs.Tables.{Table}
use Rattle.book_rows.specs.declared.rows.TxRow.{TxRow}
use Rattle.book_rows.specs.declared.rows.BudgetRow.{BudgetRow}
use Rattle.book_rows.specs.declared.rows.AccountRow.{AccountRow}
use Rattle.book_rows.specs.declared.rows.GroupRow.{GroupRow}
use Rattle.book_rows.specs.declared.rows.CategoryRow.{CategoryRow}
use Rattle.book_rows.specs.declared.rows.PayeeRow.{PayeeRow}
use Rattle.book_rows.specs.declared.rows.MonthRow.{MonthRow}
use Rattle.book_rows.specs.declared.rows.NoteRow.{NoteRow}
use Rattle.book_rows.specs.declared.rows.RuleRow.{RuleRow}
use Rattle.book_rows.specs.declared.rows.ScheduleRow.{ScheduleRow}
use Rattle.book_rows.specs.declared.rows.CategoryMappingRow.{CategoryMappingRow}
use Rattle.book_rows.specs.declared.rows.PayeeMappingRow.{PayeeMappingRow}

-- ---- transactions
abbrev pub tx_kind : Column → Option Kind
tx_kind Acct = Some Words
tx_kind Date = Some Day
tx_kind Amount = Some Int
tx_kind Description = Some Words
tx_kind Category = Some Words
tx_kind Notes = Some Words
tx_kind ImportedDescription = Some Words
tx_kind FinancialId = Some Words
tx_kind TransferredId = Some Words
tx_kind Schedule = Some Words
tx_kind IsParent = Some Flag
tx_kind IsChild = Some Flag
tx_kind ParentId = Some Words
tx_kind Cleared = Some Flag
tx_kind Reconciled = Some Flag
tx_kind SortOrder = Some Int
tx_kind Tombstone = Some Flag
tx_kind other = None

abbrev pub tx_row : Text → (Column → Value) → TxRow
tx_row id value = record {
  id = id;
  acct = text_of (value Acct);
  date = day_of (value Date);
  amount = int_of (value Amount);
  description = text_of (value Description);
  category = text_of (value Category);
  notes = text_of (value Notes);
  imported_description = text_of (value ImportedDescription);
  financial_id = text_of (value FinancialId);
  transferred_id = text_of (value TransferredId);
  schedule = text_of (value Schedule);
  is_parent = flag_of (value IsParent);
  is_child = flag_of (value IsChild);
  parent_id = text_of (value ParentId);
  cleared = flag_of (value Cleared);
  reconciled = flag_of (value Reconciled);
  sort_order = int_of (value SortOrder);
  tombstone = flag_of (value Tombstone);
}

abbrev pub with_tx_column : Column → Value → TxRow → TxRow
with_tx_column Acct v row = record row { acct = text_of v }
with_tx_column Date v row = record row { date = day_of v }
with_tx_column Amount v row = record row { amount = int_of v }
with_tx_column Description v row = record row { description = text_of v }
with_tx_column Category v row = record row { category = text_of v }
with_tx_column Notes v row = record row { notes = text_of v }
with_tx_column ImportedDescription v row = record row { imported_description = text_of v }
with_tx_column FinancialId v row = record row { financial_id = text_of v }
with_tx_column TransferredId v row = record row { transferred_id = text_of v }
with_tx_column Schedule v row = record row { schedule = text_of v }
with_tx_column IsParent v row = record row { is_parent = flag_of v }
with_tx_column IsChild v row = record row { is_child = flag_of v }
with_tx_column ParentId v row = record row { parent_id = text_of v }
with_tx_column Cleared v row = record row { cleared = flag_of v }
with_tx_column Reconciled v row = record row { reconciled = flag_of v }
with_tx_column SortOrder v row = record row { sort_order = int_of v }
with_tx_column Tombstone v row = record row { tombstone = flag_of v }
with_tx_column other v row = row

abbrev pub tx_table : Table TxRow
tx_table = record { kind = tx_kind; row = tx_row; set = with_tx_column }

-- ---- zero_budgets, and reflect_budgets, whose rows are the same
abbrev pub budget_kind : Column → Option Kind
budget_kind Month = Some Int
budget_kind Category = Some Words
budget_kind Amount = Some Int
budget_kind Carryover = Some Flag
budget_kind other = None

abbrev pub budget_row : Text → (Column → Value) → BudgetRow
budget_row id value = record {
  id = id;
  month = int_of (value Month);
  category = text_of (value Category);
  amount = int_of (value Amount);
  carryover = flag_of (value Carryover);
}

abbrev pub with_budget_column : Column → Value → BudgetRow → BudgetRow
with_budget_column Month v row = record row { month = int_of v }
with_budget_column Category v row = record row { category = text_of v }
with_budget_column Amount v row = record row { amount = int_of v }
with_budget_column Carryover v row = record row { carryover = flag_of v }
with_budget_column other v row = row

abbrev pub budget_table : Table BudgetRow
budget_table = record { kind = budget_kind; row = budget_row; set = with_budget_column }

-- ---- accounts
abbrev pub account_kind : Column → Option Kind
account_kind Name = Some Words
account_kind Offbudget = Some Flag
account_kind Closed = Some Flag
account_kind SortOrder = Some Int
account_kind Tombstone = Some Flag
account_kind other = None

abbrev pub account_row : Text → (Column → Value) → AccountRow
account_row id value = record {
  id = id;
  name = text_of (value Name);
  offbudget = flag_of (value Offbudget);
  closed = flag_of (value Closed);
  sort_order = int_of (value SortOrder);
  tombstone = flag_of (value Tombstone);
}

abbrev pub with_account_column : Column → Value → AccountRow → AccountRow
with_account_column Name v row = record row { name = text_of v }
with_account_column Offbudget v row = record row { offbudget = flag_of v }
with_account_column Closed v row = record row { closed = flag_of v }
with_account_column SortOrder v row = record row { sort_order = int_of v }
with_account_column Tombstone v row = record row { tombstone = flag_of v }
with_account_column other v row = row

abbrev pub account_table : Table AccountRow
account_table = record { kind = account_kind; row = account_row; set = with_account_column }

-- ---- category_groups
abbrev pub group_kind : Column → Option Kind
group_kind Name = Some Words
group_kind IsIncome = Some Flag
group_kind SortOrder = Some Int
group_kind Hidden = Some Flag
group_kind Tombstone = Some Flag
group_kind other = None

abbrev pub group_row : Text → (Column → Value) → GroupRow
group_row id value = record {
  id = id;
  name = text_of (value Name);
  is_income = flag_of (value IsIncome);
  sort_order = int_of (value SortOrder);
  hidden = flag_of (value Hidden);
  tombstone = flag_of (value Tombstone);
}

abbrev pub with_group_column : Column → Value → GroupRow → GroupRow
with_group_column Name v row = record row { name = text_of v }
with_group_column IsIncome v row = record row { is_income = flag_of v }
with_group_column SortOrder v row = record row { sort_order = int_of v }
with_group_column Hidden v row = record row { hidden = flag_of v }
with_group_column Tombstone v row = record row { tombstone = flag_of v }
with_group_column other v row = row

abbrev pub group_table : Table GroupRow
group_table = record { kind = group_kind; row = group_row; set = with_group_column }

-- ---- categories
abbrev pub category_kind : Column → Option Kind
category_kind Name = Some Words
category_kind CatGroup = Some Words
category_kind IsIncome = Some Flag
category_kind SortOrder = Some Int
category_kind Hidden = Some Flag
category_kind Tombstone = Some Flag
category_kind other = None

abbrev pub category_row : Text → (Column → Value) → CategoryRow
category_row id value = record {
  id = id;
  name = text_of (value Name);
  cat_group = text_of (value CatGroup);
  is_income = flag_of (value IsIncome);
  sort_order = int_of (value SortOrder);
  hidden = flag_of (value Hidden);
  tombstone = flag_of (value Tombstone);
}

abbrev pub with_category_column : Column → Value → CategoryRow → CategoryRow
with_category_column Name v row = record row { name = text_of v }
with_category_column CatGroup v row = record row { cat_group = text_of v }
with_category_column IsIncome v row = record row { is_income = flag_of v }
with_category_column SortOrder v row = record row { sort_order = int_of v }
with_category_column Hidden v row = record row { hidden = flag_of v }
with_category_column Tombstone v row = record row { tombstone = flag_of v }
with_category_column other v row = row

abbrev pub category_table : Table CategoryRow
category_table = record { kind = category_kind; row = category_row; set = with_category_column }

-- ---- payees
abbrev pub payee_kind : Column → Option Kind
payee_kind Name = Some Words
payee_kind TransferAcct = Some Words
payee_kind Tombstone = Some Flag
payee_kind other = None

abbrev pub payee_row : Text → (Column → Value) → PayeeRow
payee_row id value = record {
  id = id;
  name = text_of (value Name);
  transfer_acct = text_of (value TransferAcct);
  tombstone = flag_of (value Tombstone);
}

abbrev pub with_payee_column : Column → Value → PayeeRow → PayeeRow
with_payee_column Name v row = record row { name = text_of v }
with_payee_column TransferAcct v row = record row { transfer_acct = text_of v }
with_payee_column Tombstone v row = record row { tombstone = flag_of v }
with_payee_column other v row = row

abbrev pub payee_table : Table PayeeRow
payee_table = record { kind = payee_kind; row = payee_row; set = with_payee_column }

-- ---- zero_budget_months
abbrev pub month_kind : Column → Option Kind
month_kind Buffered = Some Int
month_kind other = None

abbrev pub month_row : Text → (Column → Value) → MonthRow
month_row id value = record {
  id = id;
  buffered = int_of (value Buffered);
}

abbrev pub with_month_column : Column → Value → MonthRow → MonthRow
with_month_column Buffered v row = record row { buffered = int_of v }
with_month_column other v row = row

abbrev pub month_table : Table MonthRow
month_table = record { kind = month_kind; row = month_row; set = with_month_column }

-- ---- notes
abbrev pub note_kind : Column → Option Kind
note_kind Note = Some Words
note_kind other = None

abbrev pub note_row : Text → (Column → Value) → NoteRow
note_row id value = record {
  id = id;
  note = text_of (value Note);
}

abbrev pub with_note_column : Column → Value → NoteRow → NoteRow
with_note_column Note v row = record row { note = text_of v }
with_note_column other v row = row

abbrev pub note_table : Table NoteRow
note_table = record { kind = note_kind; row = note_row; set = with_note_column }

-- ---- rules
abbrev pub rule_kind : Column → Option Kind
rule_kind Stage = Some Words
rule_kind ConditionsOp = Some Words
rule_kind Conditions = Some Words
rule_kind Actions = Some Words
rule_kind Tombstone = Some Flag
rule_kind other = None

abbrev pub rule_row : Text → (Column → Value) → RuleRow
rule_row id value = record {
  id = id;
  stage = text_of (value Stage);
  conditions_op = text_of (value ConditionsOp);
  conditions = text_of (value Conditions);
  actions = text_of (value Actions);
  tombstone = flag_of (value Tombstone);
}

abbrev pub with_rule_column : Column → Value → RuleRow → RuleRow
with_rule_column Stage v row = record row { stage = text_of v }
with_rule_column ConditionsOp v row = record row { conditions_op = text_of v }
with_rule_column Conditions v row = record row { conditions = text_of v }
with_rule_column Actions v row = record row { actions = text_of v }
with_rule_column Tombstone v row = record row { tombstone = flag_of v }
with_rule_column other v row = row

abbrev pub rule_table : Table RuleRow
rule_table = record { kind = rule_kind; row = rule_row; set = with_rule_column }

-- ---- schedules
abbrev pub schedule_kind : Column → Option Kind
schedule_kind Rule = Some Words
schedule_kind Name = Some Words
schedule_kind NextDate = Some Day
schedule_kind Completed = Some Flag
schedule_kind PostsTransaction = Some Flag
schedule_kind Tombstone = Some Flag
schedule_kind other = None

abbrev pub schedule_row : Text → (Column → Value) → ScheduleRow
schedule_row id value = record {
  id = id;
  rule = text_of (value Rule);
  name = text_of (value Name);
  next_date = day_of (value NextDate);
  completed = flag_of (value Completed);
  posts_transaction = flag_of (value PostsTransaction);
  tombstone = flag_of (value Tombstone);
}

abbrev pub with_schedule_column : Column → Value → ScheduleRow → ScheduleRow
with_schedule_column Rule v row = record row { rule = text_of v }
with_schedule_column Name v row = record row { name = text_of v }
with_schedule_column NextDate v row = record row { next_date = day_of v }
with_schedule_column Completed v row = record row { completed = flag_of v }
with_schedule_column PostsTransaction v row = record row { posts_transaction = flag_of v }
with_schedule_column Tombstone v row = record row { tombstone = flag_of v }
with_schedule_column other v row = row

abbrev pub schedule_table : Table ScheduleRow
schedule_table = record { kind = schedule_kind; row = schedule_row; set = with_schedule_column }

-- ---- category_mapping
abbrev pub category_mapping_kind : Column → Option Kind
category_mapping_kind TransferId = Some Words
category_mapping_kind other = None

abbrev pub category_mapping_row : Text → (Column → Value) → CategoryMappingRow
category_mapping_row id value = record {
  id = id;
  transfer_id = text_of (value TransferId);
}

abbrev pub with_category_mapping_column : Column → Value → CategoryMappingRow → CategoryMappingRow
with_category_mapping_column TransferId v row = record row { transfer_id = text_of v }
with_category_mapping_column other v row = row

abbrev pub category_mapping_table : Table CategoryMappingRow
category_mapping_table = record { kind = category_mapping_kind; row = category_mapping_row; set = with_category_mapping_column }

-- ---- payee_mapping
abbrev pub payee_mapping_kind : Column → Option Kind
payee_mapping_kind TargetId = Some Words
payee_mapping_kind other = None

abbrev pub payee_mapping_row : Text → (Column → Value) → PayeeMappingRow
payee_mapping_row id value = record {
  id = id;
  target_id = text_of (value TargetId);
}

abbrev pub with_payee_mapping_column : Column → Value → PayeeMappingRow → PayeeMappingRow
with_payee_mapping_column TargetId v row = record row { target_id = text_of v }
with_payee_mapping_column other v row = row

abbrev pub payee_mapping_table : Table PayeeMappingRow
payee_mapping_table = record { kind = payee_mapping_kind; row = payee_mapping_row; set = with_payee_mapping_column }
