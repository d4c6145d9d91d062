-- Each field of a row is the column of its own name.
use Rattle.std.proofs.Common.{◌≡◌, Bool, true, false, cond, List, [], ◌∷◌, map as list_map, Option, Some, None, unwrap_or, refl, sym, ap, subst, ◌∙◌, true≢false}
use Rattle.std.specs.Prelude.{◌&&◌, ◌||◌, is_some}
use Rattle.std.specs.List.{AllByRecursion, list_any}
use Rattle.field_values.specs.declared.value.Value.{Value}
use Rattle.field_values.specs.declared.value.Value.TheVariants.{Null}
use Rattle.field_values.specs.Names.{field_of}
use Rattle.finite_sums.specs.Maps.{Text, text_cmp, is_among}
use Rattle.book_rows.specs.declared.column.Dataset.{Dataset}
use Rattle.book_rows.specs.declared.column.Dataset.TheVariants as ds
use Rattle.book_rows.specs.declared.column.Column.{Column}
use Rattle.book_rows.specs.declared.column.Column.TheVariants as of
use Rattle.book_rows.specs.declared.rows.Rows.{Rows}
use Rattle.book_rows.specs.Columns.{dataset_name, column_name, all_columns, dataset_of, column_of}
use Rattle.book_rows.specs.Rows.{Values, values_at, with_cell, with_known, with_field, dataset_kind, known_kind, kind_of}
use Rattle.book_rows.specs.Rules.{account_table, group_table, category_table, payee_table, tx_table, budget_table, month_table, note_table, rule_table, schedule_table, category_mapping_table, payee_mapping_table}
use Rattle.book_rows.specs.Tables.{Table, has_column, row_at}
use Rattle.book_rows.proofs.Following.{unknown_stays}
use Rattle.book_rows.proofs.Naming.{column_named, dataset_named, dataset_found, column_found, no_column}
use Rattle.book_laws.specs.Columns.{DatasetOf, IsTold, ColumnsAreTold, said, dataset_names, accounts, groups, categories, payees, transactions, budgets, tracked, months, notes, rules, schedules, category_mappings, payee_mappings}

-- ---- a field by its names

cell : (d : Dataset) (c : Column) (rows : Rows) (id : Text) (value : Value) → with_field rows (field_of (dataset_name d) id (column_name c)) value ≡ with_cell d id c value rows
cell d c rows id value = ap (λ o. with_known o (column_of (column_name c)) id value rows) (dataset_found d) ∙ ap (λ o. with_known (Some d) o id value rows) (column_found c)

kind : (d : Dataset) (c : Column) → kind_of (dataset_name d) (column_name c) ≡ dataset_kind d c
kind d c = ap (λ o. known_kind o (column_of (column_name c))) (dataset_found d) ∙ ap (known_kind (Some d)) (column_found c)

abbrev names_of : {Row : Type 0} → DatasetOf Row → List Text
names_of d = list_map (λ c. c.name) d.columns

-- a name that is none of some is that of no column of a dataset whose columns are among these
no_kind : (d : Dataset) (names : List Text) (column : Text) → ((c : Column) → is_among text_cmp names (column_name c) ≡ false → dataset_kind d c ≡ None) → is_among text_cmp names column ≡ false → kind_of (dataset_name d) column ≡ None
no_kind d names column all h = ap (λ o. known_kind o (column_of column)) (dataset_found d) ∙ by (column_of column) refl
  where
    by : (o : Option Column) → column_of column ≡ o → known_kind (Some d) o ≡ None
    by None e = refl
    by (Some c) e = all c (sym (ap (is_among text_cmp names) (column_named column c e)) ∙ h)

-- ---- the row that values make

made_by : {Row : Type 0} (t : Bool) (x row : Row) → (cond t (Some x) None) ≡ Some row → x ≡ row
made_by true x row h = cc
made_by false x row h = absurd (cc)

row_made : {Row : Type 0} (table : Table Row) (id : Text) (value : Column → Option Value) (row : Row) → row_at table id value ≡ Some row → table.row id (λ column. unwrap_or (value column) Null) ≡ row
row_made table id value row h = made_by (has_column table.kind value) (table.row id (λ column. unwrap_or (value column) Null)) row h

none_by : {Row : Type 0} (t : Bool) (x : Row) → (cond t (Some x) None) ≡ None → t ≡ false
none_by true x h = absurd (cc)
none_by false x h = refl

no_value : (o : Option Value) → is_some o ≡ false → o ≡ None
no_value None h = refl
no_value (Some v) h = absurd (true≢false h)

-- where there is no row, no column of the dataset has a value
no_values : {Row : Type 0} (table : Table Row) (id : Text) (value : Column → Option Value) → row_at table id value ≡ None → (c : Column) → is_some (table.kind c) ≡ true → value c ≡ None
no_values table id value h c known =
    let none = no_column (λ c. is_some (table.kind c) && is_some (value c)) (none_by (has_column table.kind value) (table.row id (λ column. unwrap_or (value column) Null)) h) c in
    no_value (value c) (sym (ap (λ t. t && is_some (value c)) known) ∙ none)

-- and where none has one, there is no row
none_has : (p : Column → Bool) (cs : List Column) → ((c : Column) → p c ≡ false) → list_any p cs ≡ false
none_has p [] h = refl
none_has p (c ∷ cs) h = ap (λ t. t || list_any p cs) (h c) ∙ none_has p cs h

no_row : {Row : Type 0} (table : Table Row) (id : Text) (value : Column → Option Value) → ((c : Column) → is_some (table.kind c) ≡ true → value c ≡ None) → row_at table id value ≡ None
no_row table id value h = ap (λ t. cond t (Some (table.row id (λ column. unwrap_or (value column) Null))) None) (none_has (λ c. is_some (table.kind c) && is_some (value c)) all_columns (λ c. each c (is_some (table.kind c)) refl))
  where
    each : (c : Column) (t : Bool) → is_some (table.kind c) ≡ t → (t && is_some (value c)) ≡ false
    each c true e = ap is_some (h c e)
    each c false e = refl

-- ---- accounts

accounts_named : (c : Column) → is_among text_cmp (names_of accounts) (column_name c) ≡ false → dataset_kind ds.Accounts c ≡ None
accounts_named of.Name h = absurd (true≢false h)
accounts_named of.Offbudget h = absurd (true≢false h)
accounts_named of.Closed h = absurd (true≢false h)
accounts_named of.SortOrder h = absurd (true≢false h)
accounts_named of.Tombstone h = absurd (true≢false h)
accounts_named other h = refl

accounts_unsaid : (values : Values) (id : Text) → AllByRecursion (λ c. values (field_of accounts.name id c.name) ≡ None) accounts.columns → (c : Column) → is_some ((account_table).kind c) ≡ true → values_at values ds.Accounts id c ≡ None
accounts_unsaid values id h of.Name e = h.0
accounts_unsaid values id h of.Offbudget e = h.1.0
accounts_unsaid values id h of.Closed e = h.1.1.0
accounts_unsaid values id h of.SortOrder e = h.1.1.1.0
accounts_unsaid values id h of.Tombstone e = h.1.1.1.1.0
accounts_unsaid values id h other e = absurd (true≢false (sym e))

accounts_told : IsTold accounts
accounts_told = record {
  set = λ rows id value. (cell ds.Accounts of.Name rows id value, (cell ds.Accounts of.Offbudget rows id value, (cell ds.Accounts of.Closed rows id value, (cell ds.Accounts of.SortOrder rows id value, (cell ds.Accounts of.Tombstone rows id value, tt)))));
  read = λ values rows id row are h. subst (λ x. (accounts.id x ≡ id) × AllByRecursion (λ c. c.set (said values accounts.name id c.name) x ≡ x) accounts.columns) (row_made account_table id (values_at values ds.Accounts id) row (sym (are.accounts id) ∙ h)) (refl, (refl, (refl, (refl, (refl, (refl, tt))))));
  none = λ values rows id are. (
    λ h. let none = no_values account_table id (values_at values ds.Accounts id) (sym (are.accounts id) ∙ h) in (none of.Name refl, (none of.Offbudget refl, (none of.Closed refl, (none of.SortOrder refl, (none of.Tombstone refl, tt))))),
    λ h. are.accounts id ∙ no_row account_table id (values_at values ds.Accounts id) (accounts_unsaid values id h),
  );
  kinds = (kind ds.Accounts of.Name, (kind ds.Accounts of.Offbudget, (kind ds.Accounts of.Closed, (kind ds.Accounts of.SortOrder, (kind ds.Accounts of.Tombstone, tt)))));
  others = λ column h.
      let none = no_kind ds.Accounts (names_of accounts) column accounts_named h in
      (none, λ rows id value. unknown_stays rows (field_of accounts.name id column) value none);
}

-- ---- groups

groups_named : (c : Column) → is_among text_cmp (names_of groups) (column_name c) ≡ false → dataset_kind ds.CategoryGroups c ≡ None
groups_named of.Name h = absurd (true≢false h)
groups_named of.IsIncome h = absurd (true≢false h)
groups_named of.SortOrder h = absurd (true≢false h)
groups_named of.Hidden h = absurd (true≢false h)
groups_named of.Tombstone h = absurd (true≢false h)
groups_named other h = refl

groups_unsaid : (values : Values) (id : Text) → AllByRecursion (λ c. values (field_of groups.name id c.name) ≡ None) groups.columns → (c : Column) → is_some ((group_table).kind c) ≡ true → values_at values ds.CategoryGroups id c ≡ None
groups_unsaid values id h of.Name e = h.0
groups_unsaid values id h of.IsIncome e = h.1.0
groups_unsaid values id h of.SortOrder e = h.1.1.0
groups_unsaid values id h of.Hidden e = h.1.1.1.0
groups_unsaid values id h of.Tombstone e = h.1.1.1.1.0
groups_unsaid values id h other e = absurd (true≢false (sym e))

groups_told : IsTold groups
groups_told = record {
  set = λ rows id value. (cell ds.CategoryGroups of.Name rows id value, (cell ds.CategoryGroups of.IsIncome rows id value, (cell ds.CategoryGroups of.SortOrder rows id value, (cell ds.CategoryGroups of.Hidden rows id value, (cell ds.CategoryGroups of.Tombstone rows id value, tt)))));
  read = λ values rows id row are h. subst (λ x. (groups.id x ≡ id) × AllByRecursion (λ c. c.set (said values groups.name id c.name) x ≡ x) groups.columns) (row_made group_table id (values_at values ds.CategoryGroups id) row (sym (are.groups id) ∙ h)) (refl, (refl, (refl, (refl, (refl, (refl, tt))))));
  none = λ values rows id are. (
    λ h. let none = no_values group_table id (values_at values ds.CategoryGroups id) (sym (are.groups id) ∙ h) in (none of.Name refl, (none of.IsIncome refl, (none of.SortOrder refl, (none of.Hidden refl, (none of.Tombstone refl, tt))))),
    λ h. are.groups id ∙ no_row group_table id (values_at values ds.CategoryGroups id) (groups_unsaid values id h),
  );
  kinds = (kind ds.CategoryGroups of.Name, (kind ds.CategoryGroups of.IsIncome, (kind ds.CategoryGroups of.SortOrder, (kind ds.CategoryGroups of.Hidden, (kind ds.CategoryGroups of.Tombstone, tt)))));
  others = λ column h.
      let none = no_kind ds.CategoryGroups (names_of groups) column groups_named h in
      (none, λ rows id value. unknown_stays rows (field_of groups.name id column) value none);
}

-- ---- categories

categories_named : (c : Column) → is_among text_cmp (names_of categories) (column_name c) ≡ false → dataset_kind ds.Categories c ≡ None
categories_named of.Name h = absurd (true≢false h)
categories_named of.CatGroup h = absurd (true≢false h)
categories_named of.IsIncome h = absurd (true≢false h)
categories_named of.SortOrder h = absurd (true≢false h)
categories_named of.Hidden h = absurd (true≢false h)
categories_named of.Tombstone h = absurd (true≢false h)
categories_named other h = refl

categories_unsaid : (values : Values) (id : Text) → AllByRecursion (λ c. values (field_of categories.name id c.name) ≡ None) categories.columns → (c : Column) → is_some ((category_table).kind c) ≡ true → values_at values ds.Categories id c ≡ None
categories_unsaid values id h of.Name e = h.0
categories_unsaid values id h of.CatGroup e = h.1.0
categories_unsaid values id h of.IsIncome e = h.1.1.0
categories_unsaid values id h of.SortOrder e = h.1.1.1.0
categories_unsaid values id h of.Hidden e = h.1.1.1.1.0
categories_unsaid values id h of.Tombstone e = h.1.1.1.1.1.0
categories_unsaid values id h other e = absurd (true≢false (sym e))

categories_told : IsTold categories
categories_told = record {
  set = λ rows id value. (cell ds.Categories of.Name rows id value, (cell ds.Categories of.CatGroup rows id value, (cell ds.Categories of.IsIncome rows id value, (cell ds.Categories of.SortOrder rows id value, (cell ds.Categories of.Hidden rows id value, (cell ds.Categories of.Tombstone rows id value, tt))))));
  read = λ values rows id row are h. subst (λ x. (categories.id x ≡ id) × AllByRecursion (λ c. c.set (said values categories.name id c.name) x ≡ x) categories.columns) (row_made category_table id (values_at values ds.Categories id) row (sym (are.categories id) ∙ h)) (refl, (refl, (refl, (refl, (refl, (refl, (refl, tt)))))));
  none = λ values rows id are. (
    λ h. let none = no_values category_table id (values_at values ds.Categories id) (sym (are.categories id) ∙ h) in (none of.Name refl, (none of.CatGroup refl, (none of.IsIncome refl, (none of.SortOrder refl, (none of.Hidden refl, (none of.Tombstone refl, tt)))))),
    λ h. are.categories id ∙ no_row category_table id (values_at values ds.Categories id) (categories_unsaid values id h),
  );
  kinds = (kind ds.Categories of.Name, (kind ds.Categories of.CatGroup, (kind ds.Categories of.IsIncome, (kind ds.Categories of.SortOrder, (kind ds.Categories of.Hidden, (kind ds.Categories of.Tombstone, tt))))));
  others = λ column h.
      let none = no_kind ds.Categories (names_of categories) column categories_named h in
      (none, λ rows id value. unknown_stays rows (field_of categories.name id column) value none);
}

-- ---- payees

payees_named : (c : Column) → is_among text_cmp (names_of payees) (column_name c) ≡ false → dataset_kind ds.Payees c ≡ None
payees_named of.Name h = absurd (true≢false h)
payees_named of.TransferAcct h = absurd (true≢false h)
payees_named of.Tombstone h = absurd (true≢false h)
payees_named other h = refl

payees_unsaid : (values : Values) (id : Text) → AllByRecursion (λ c. values (field_of payees.name id c.name) ≡ None) payees.columns → (c : Column) → is_some ((payee_table).kind c) ≡ true → values_at values ds.Payees id c ≡ None
payees_unsaid values id h of.Name e = h.0
payees_unsaid values id h of.TransferAcct e = h.1.0
payees_unsaid values id h of.Tombstone e = h.1.1.0
payees_unsaid values id h other e = absurd (true≢false (sym e))

payees_told : IsTold payees
payees_told = record {
  set = λ rows id value. (cell ds.Payees of.Name rows id value, (cell ds.Payees of.TransferAcct rows id value, (cell ds.Payees of.Tombstone rows id value, tt)));
  read = λ values rows id row are h. subst (λ x. (payees.id x ≡ id) × AllByRecursion (λ c. c.set (said values payees.name id c.name) x ≡ x) payees.columns) (row_made payee_table id (values_at values ds.Payees id) row (sym (are.payees id) ∙ h)) (refl, (refl, (refl, (refl, tt))));
  none = λ values rows id are. (
    λ h. let none = no_values payee_table id (values_at values ds.Payees id) (sym (are.payees id) ∙ h) in (none of.Name refl, (none of.TransferAcct refl, (none of.Tombstone refl, tt))),
    λ h. are.payees id ∙ no_row payee_table id (values_at values ds.Payees id) (payees_unsaid values id h),
  );
  kinds = (kind ds.Payees of.Name, (kind ds.Payees of.TransferAcct, (kind ds.Payees of.Tombstone, tt)));
  others = λ column h.
      let none = no_kind ds.Payees (names_of payees) column payees_named h in
      (none, λ rows id value. unknown_stays rows (field_of payees.name id column) value none);
}

-- ---- transactions

transactions_named : (c : Column) → is_among text_cmp (names_of transactions) (column_name c) ≡ false → dataset_kind ds.Transactions c ≡ None
transactions_named of.Acct h = absurd (true≢false h)
transactions_named of.Date h = absurd (true≢false h)
transactions_named of.Amount h = absurd (true≢false h)
transactions_named of.Description h = absurd (true≢false h)
transactions_named of.Category h = absurd (true≢false h)
transactions_named of.Notes h = absurd (true≢false h)
transactions_named of.ImportedDescription h = absurd (true≢false h)
transactions_named of.FinancialId h = absurd (true≢false h)
transactions_named of.TransferredId h = absurd (true≢false h)
transactions_named of.Schedule h = absurd (true≢false h)
transactions_named of.IsParent h = absurd (true≢false h)
transactions_named of.IsChild h = absurd (true≢false h)
transactions_named of.ParentId h = absurd (true≢false h)
transactions_named of.Cleared h = absurd (true≢false h)
transactions_named of.Reconciled h = absurd (true≢false h)
transactions_named of.SortOrder h = absurd (true≢false h)
transactions_named of.Tombstone h = absurd (true≢false h)
transactions_named other h = refl

transactions_unsaid : (values : Values) (id : Text) → AllByRecursion (λ c. values (field_of transactions.name id c.name) ≡ None) transactions.columns → (c : Column) → is_some ((tx_table).kind c) ≡ true → values_at values ds.Transactions id c ≡ None
transactions_unsaid values id h of.Acct e = h.0
transactions_unsaid values id h of.Date e = h.1.0
transactions_unsaid values id h of.Amount e = h.1.1.0
transactions_unsaid values id h of.Description e = h.1.1.1.0
transactions_unsaid values id h of.Category e = h.1.1.1.1.0
transactions_unsaid values id h of.Notes e = h.1.1.1.1.1.0
transactions_unsaid values id h of.ImportedDescription e = h.1.1.1.1.1.1.0
transactions_unsaid values id h of.FinancialId e = h.1.1.1.1.1.1.1.0
transactions_unsaid values id h of.TransferredId e = h.1.1.1.1.1.1.1.1.0
transactions_unsaid values id h of.Schedule e = h.1.1.1.1.1.1.1.1.1.0
transactions_unsaid values id h of.IsParent e = h.1.1.1.1.1.1.1.1.1.1.0
transactions_unsaid values id h of.IsChild e = h.1.1.1.1.1.1.1.1.1.1.1.0
transactions_unsaid values id h of.ParentId e = h.1.1.1.1.1.1.1.1.1.1.1.1.0
transactions_unsaid values id h of.Cleared e = h.1.1.1.1.1.1.1.1.1.1.1.1.1.0
transactions_unsaid values id h of.Reconciled e = h.1.1.1.1.1.1.1.1.1.1.1.1.1.1.0
transactions_unsaid values id h of.SortOrder e = h.1.1.1.1.1.1.1.1.1.1.1.1.1.1.1.0
transactions_unsaid values id h of.Tombstone e = h.1.1.1.1.1.1.1.1.1.1.1.1.1.1.1.1.0
transactions_unsaid values id h other e = absurd (true≢false (sym e))

transactions_told : IsTold transactions
transactions_told = record {
  set = λ rows id value. (cell ds.Transactions of.Acct rows id value, (cell ds.Transactions of.Date rows id value, (cell ds.Transactions of.Amount rows id value, (cell ds.Transactions of.Description rows id value, (cell ds.Transactions of.Category rows id value, (cell ds.Transactions of.Notes rows id value, (cell ds.Transactions of.ImportedDescription rows id value, (cell ds.Transactions of.FinancialId rows id value, (cell ds.Transactions of.TransferredId rows id value, (cell ds.Transactions of.Schedule rows id value, (cell ds.Transactions of.IsParent rows id value, (cell ds.Transactions of.IsChild rows id value, (cell ds.Transactions of.ParentId rows id value, (cell ds.Transactions of.Cleared rows id value, (cell ds.Transactions of.Reconciled rows id value, (cell ds.Transactions of.SortOrder rows id value, (cell ds.Transactions of.Tombstone rows id value, tt)))))))))))))))));
  read = λ values rows id row are h. subst (λ x. (transactions.id x ≡ id) × AllByRecursion (λ c. c.set (said values transactions.name id c.name) x ≡ x) transactions.columns) (row_made tx_table id (values_at values ds.Transactions id) row (sym (are.txs id) ∙ h)) (refl, (refl, (refl, (refl, (refl, (refl, (refl, (refl, (refl, (refl, (refl, (refl, (refl, (refl, (refl, (refl, (refl, (refl, tt))))))))))))))))));
  none = λ values rows id are. (
    λ h. let none = no_values tx_table id (values_at values ds.Transactions id) (sym (are.txs id) ∙ h) in (none of.Acct refl, (none of.Date refl, (none of.Amount refl, (none of.Description refl, (none of.Category refl, (none of.Notes refl, (none of.ImportedDescription refl, (none of.FinancialId refl, (none of.TransferredId refl, (none of.Schedule refl, (none of.IsParent refl, (none of.IsChild refl, (none of.ParentId refl, (none of.Cleared refl, (none of.Reconciled refl, (none of.SortOrder refl, (none of.Tombstone refl, tt))))))))))))))))),
    λ h. are.txs id ∙ no_row tx_table id (values_at values ds.Transactions id) (transactions_unsaid values id h),
  );
  kinds = (kind ds.Transactions of.Acct, (kind ds.Transactions of.Date, (kind ds.Transactions of.Amount, (kind ds.Transactions of.Description, (kind ds.Transactions of.Category, (kind ds.Transactions of.Notes, (kind ds.Transactions of.ImportedDescription, (kind ds.Transactions of.FinancialId, (kind ds.Transactions of.TransferredId, (kind ds.Transactions of.Schedule, (kind ds.Transactions of.IsParent, (kind ds.Transactions of.IsChild, (kind ds.Transactions of.ParentId, (kind ds.Transactions of.Cleared, (kind ds.Transactions of.Reconciled, (kind ds.Transactions of.SortOrder, (kind ds.Transactions of.Tombstone, tt)))))))))))))))));
  others = λ column h.
      let none = no_kind ds.Transactions (names_of transactions) column transactions_named h in
      (none, λ rows id value. unknown_stays rows (field_of transactions.name id column) value none);
}

-- ---- budgets

budgets_named : (c : Column) → is_among text_cmp (names_of budgets) (column_name c) ≡ false → dataset_kind ds.ZeroBudgets c ≡ None
budgets_named of.Month h = absurd (true≢false h)
budgets_named of.Category h = absurd (true≢false h)
budgets_named of.Amount h = absurd (true≢false h)
budgets_named of.Carryover h = absurd (true≢false h)
budgets_named other h = refl

budgets_unsaid : (values : Values) (id : Text) → AllByRecursion (λ c. values (field_of budgets.name id c.name) ≡ None) budgets.columns → (c : Column) → is_some ((budget_table).kind c) ≡ true → values_at values ds.ZeroBudgets id c ≡ None
budgets_unsaid values id h of.Month e = h.0
budgets_unsaid values id h of.Category e = h.1.0
budgets_unsaid values id h of.Amount e = h.1.1.0
budgets_unsaid values id h of.Carryover e = h.1.1.1.0
budgets_unsaid values id h other e = absurd (true≢false (sym e))

budgets_told : IsTold budgets
budgets_told = record {
  set = λ rows id value. (cell ds.ZeroBudgets of.Month rows id value, (cell ds.ZeroBudgets of.Category rows id value, (cell ds.ZeroBudgets of.Amount rows id value, (cell ds.ZeroBudgets of.Carryover rows id value, tt))));
  read = λ values rows id row are h. subst (λ x. (budgets.id x ≡ id) × AllByRecursion (λ c. c.set (said values budgets.name id c.name) x ≡ x) budgets.columns) (row_made budget_table id (values_at values ds.ZeroBudgets id) row (sym (are.budgets id) ∙ h)) (refl, (refl, (refl, (refl, (refl, tt)))));
  none = λ values rows id are. (
    λ h. let none = no_values budget_table id (values_at values ds.ZeroBudgets id) (sym (are.budgets id) ∙ h) in (none of.Month refl, (none of.Category refl, (none of.Amount refl, (none of.Carryover refl, tt)))),
    λ h. are.budgets id ∙ no_row budget_table id (values_at values ds.ZeroBudgets id) (budgets_unsaid values id h),
  );
  kinds = (kind ds.ZeroBudgets of.Month, (kind ds.ZeroBudgets of.Category, (kind ds.ZeroBudgets of.Amount, (kind ds.ZeroBudgets of.Carryover, tt))));
  others = λ column h.
      let none = no_kind ds.ZeroBudgets (names_of budgets) column budgets_named h in
      (none, λ rows id value. unknown_stays rows (field_of budgets.name id column) value none);
}

-- ---- tracked

tracked_named : (c : Column) → is_among text_cmp (names_of tracked) (column_name c) ≡ false → dataset_kind ds.ReflectBudgets c ≡ None
tracked_named of.Month h = absurd (true≢false h)
tracked_named of.Category h = absurd (true≢false h)
tracked_named of.Amount h = absurd (true≢false h)
tracked_named of.Carryover h = absurd (true≢false h)
tracked_named other h = refl

tracked_unsaid : (values : Values) (id : Text) → AllByRecursion (λ c. values (field_of tracked.name id c.name) ≡ None) tracked.columns → (c : Column) → is_some ((budget_table).kind c) ≡ true → values_at values ds.ReflectBudgets id c ≡ None
tracked_unsaid values id h of.Month e = h.0
tracked_unsaid values id h of.Category e = h.1.0
tracked_unsaid values id h of.Amount e = h.1.1.0
tracked_unsaid values id h of.Carryover e = h.1.1.1.0
tracked_unsaid values id h other e = absurd (true≢false (sym e))

tracked_told : IsTold tracked
tracked_told = record {
  set = λ rows id value. (cell ds.ReflectBudgets of.Month rows id value, (cell ds.ReflectBudgets of.Category rows id value, (cell ds.ReflectBudgets of.Amount rows id value, (cell ds.ReflectBudgets of.Carryover rows id value, tt))));
  read = λ values rows id row are h. subst (λ x. (tracked.id x ≡ id) × AllByRecursion (λ c. c.set (said values tracked.name id c.name) x ≡ x) tracked.columns) (row_made budget_table id (values_at values ds.ReflectBudgets id) row (sym (are.tracked id) ∙ h)) (refl, (refl, (refl, (refl, (refl, tt)))));
  none = λ values rows id are. (
    λ h. let none = no_values budget_table id (values_at values ds.ReflectBudgets id) (sym (are.tracked id) ∙ h) in (none of.Month refl, (none of.Category refl, (none of.Amount refl, (none of.Carryover refl, tt)))),
    λ h. are.tracked id ∙ no_row budget_table id (values_at values ds.ReflectBudgets id) (tracked_unsaid values id h),
  );
  kinds = (kind ds.ReflectBudgets of.Month, (kind ds.ReflectBudgets of.Category, (kind ds.ReflectBudgets of.Amount, (kind ds.ReflectBudgets of.Carryover, tt))));
  others = λ column h.
      let none = no_kind ds.ReflectBudgets (names_of tracked) column tracked_named h in
      (none, λ rows id value. unknown_stays rows (field_of tracked.name id column) value none);
}

-- ---- months

months_named : (c : Column) → is_among text_cmp (names_of months) (column_name c) ≡ false → dataset_kind ds.ZeroBudgetMonths c ≡ None
months_named of.Buffered h = absurd (true≢false h)
months_named other h = refl

months_unsaid : (values : Values) (id : Text) → AllByRecursion (λ c. values (field_of months.name id c.name) ≡ None) months.columns → (c : Column) → is_some ((month_table).kind c) ≡ true → values_at values ds.ZeroBudgetMonths id c ≡ None
months_unsaid values id h of.Buffered e = h.0
months_unsaid values id h other e = absurd (true≢false (sym e))

months_told : IsTold months
months_told = record {
  set = λ rows id value. (cell ds.ZeroBudgetMonths of.Buffered rows id value, tt);
  read = λ values rows id row are h. subst (λ x. (months.id x ≡ id) × AllByRecursion (λ c. c.set (said values months.name id c.name) x ≡ x) months.columns) (row_made month_table id (values_at values ds.ZeroBudgetMonths id) row (sym (are.months id) ∙ h)) (refl, (refl, tt));
  none = λ values rows id are. (
    λ h. let none = no_values month_table id (values_at values ds.ZeroBudgetMonths id) (sym (are.months id) ∙ h) in (none of.Buffered refl, tt),
    λ h. are.months id ∙ no_row month_table id (values_at values ds.ZeroBudgetMonths id) (months_unsaid values id h),
  );
  kinds = (kind ds.ZeroBudgetMonths of.Buffered, tt);
  others = λ column h.
      let none = no_kind ds.ZeroBudgetMonths (names_of months) column months_named h in
      (none, λ rows id value. unknown_stays rows (field_of months.name id column) value none);
}

-- ---- notes

notes_named : (c : Column) → is_among text_cmp (names_of notes) (column_name c) ≡ false → dataset_kind ds.Notes c ≡ None
notes_named of.Note h = absurd (true≢false h)
notes_named other h = refl

notes_unsaid : (values : Values) (id : Text) → AllByRecursion (λ c. values (field_of notes.name id c.name) ≡ None) notes.columns → (c : Column) → is_some ((note_table).kind c) ≡ true → values_at values ds.Notes id c ≡ None
notes_unsaid values id h of.Note e = h.0
notes_unsaid values id h other e = absurd (true≢false (sym e))

notes_told : IsTold notes
notes_told = record {
  set = λ rows id value. (cell ds.Notes of.Note rows id value, tt);
  read = λ values rows id row are h. subst (λ x. (notes.id x ≡ id) × AllByRecursion (λ c. c.set (said values notes.name id c.name) x ≡ x) notes.columns) (row_made note_table id (values_at values ds.Notes id) row (sym (are.notes id) ∙ h)) (refl, (refl, tt));
  none = λ values rows id are. (
    λ h. let none = no_values note_table id (values_at values ds.Notes id) (sym (are.notes id) ∙ h) in (none of.Note refl, tt),
    λ h. are.notes id ∙ no_row note_table id (values_at values ds.Notes id) (notes_unsaid values id h),
  );
  kinds = (kind ds.Notes of.Note, tt);
  others = λ column h.
      let none = no_kind ds.Notes (names_of notes) column notes_named h in
      (none, λ rows id value. unknown_stays rows (field_of notes.name id column) value none);
}

-- ---- rules

rules_named : (c : Column) → is_among text_cmp (names_of rules) (column_name c) ≡ false → dataset_kind ds.Rules c ≡ None
rules_named of.Stage h = absurd (true≢false h)
rules_named of.ConditionsOp h = absurd (true≢false h)
rules_named of.Conditions h = absurd (true≢false h)
rules_named of.Actions h = absurd (true≢false h)
rules_named of.Tombstone h = absurd (true≢false h)
rules_named other h = refl

rules_unsaid : (values : Values) (id : Text) → AllByRecursion (λ c. values (field_of rules.name id c.name) ≡ None) rules.columns → (c : Column) → is_some ((rule_table).kind c) ≡ true → values_at values ds.Rules id c ≡ None
rules_unsaid values id h of.Stage e = h.0
rules_unsaid values id h of.ConditionsOp e = h.1.0
rules_unsaid values id h of.Conditions e = h.1.1.0
rules_unsaid values id h of.Actions e = h.1.1.1.0
rules_unsaid values id h of.Tombstone e = h.1.1.1.1.0
rules_unsaid values id h other e = absurd (true≢false (sym e))

rules_told : IsTold rules
rules_told = record {
  set = λ rows id value. (cell ds.Rules of.Stage rows id value, (cell ds.Rules of.ConditionsOp rows id value, (cell ds.Rules of.Conditions rows id value, (cell ds.Rules of.Actions rows id value, (cell ds.Rules of.Tombstone rows id value, tt)))));
  read = λ values rows id row are h. subst (λ x. (rules.id x ≡ id) × AllByRecursion (λ c. c.set (said values rules.name id c.name) x ≡ x) rules.columns) (row_made rule_table id (values_at values ds.Rules id) row (sym (are.rules id) ∙ h)) (refl, (refl, (refl, (refl, (refl, (refl, tt))))));
  none = λ values rows id are. (
    λ h. let none = no_values rule_table id (values_at values ds.Rules id) (sym (are.rules id) ∙ h) in (none of.Stage refl, (none of.ConditionsOp refl, (none of.Conditions refl, (none of.Actions refl, (none of.Tombstone refl, tt))))),
    λ h. are.rules id ∙ no_row rule_table id (values_at values ds.Rules id) (rules_unsaid values id h),
  );
  kinds = (kind ds.Rules of.Stage, (kind ds.Rules of.ConditionsOp, (kind ds.Rules of.Conditions, (kind ds.Rules of.Actions, (kind ds.Rules of.Tombstone, tt)))));
  others = λ column h.
      let none = no_kind ds.Rules (names_of rules) column rules_named h in
      (none, λ rows id value. unknown_stays rows (field_of rules.name id column) value none);
}

-- ---- schedules

schedules_named : (c : Column) → is_among text_cmp (names_of schedules) (column_name c) ≡ false → dataset_kind ds.Schedules c ≡ None
schedules_named of.Rule h = absurd (true≢false h)
schedules_named of.Name h = absurd (true≢false h)
schedules_named of.NextDate h = absurd (true≢false h)
schedules_named of.Completed h = absurd (true≢false h)
schedules_named of.PostsTransaction h = absurd (true≢false h)
schedules_named of.Tombstone h = absurd (true≢false h)
schedules_named other h = refl

schedules_unsaid : (values : Values) (id : Text) → AllByRecursion (λ c. values (field_of schedules.name id c.name) ≡ None) schedules.columns → (c : Column) → is_some ((schedule_table).kind c) ≡ true → values_at values ds.Schedules id c ≡ None
schedules_unsaid values id h of.Rule e = h.0
schedules_unsaid values id h of.Name e = h.1.0
schedules_unsaid values id h of.NextDate e = h.1.1.0
schedules_unsaid values id h of.Completed e = h.1.1.1.0
schedules_unsaid values id h of.PostsTransaction e = h.1.1.1.1.0
schedules_unsaid values id h of.Tombstone e = h.1.1.1.1.1.0
schedules_unsaid values id h other e = absurd (true≢false (sym e))

schedules_told : IsTold schedules
schedules_told = record {
  set = λ rows id value. (cell ds.Schedules of.Rule rows id value, (cell ds.Schedules of.Name rows id value, (cell ds.Schedules of.NextDate rows id value, (cell ds.Schedules of.Completed rows id value, (cell ds.Schedules of.PostsTransaction rows id value, (cell ds.Schedules of.Tombstone rows id value, tt))))));
  read = λ values rows id row are h. subst (λ x. (schedules.id x ≡ id) × AllByRecursion (λ c. c.set (said values schedules.name id c.name) x ≡ x) schedules.columns) (row_made schedule_table id (values_at values ds.Schedules id) row (sym (are.schedules id) ∙ h)) (refl, (refl, (refl, (refl, (refl, (refl, (refl, tt)))))));
  none = λ values rows id are. (
    λ h. let none = no_values schedule_table id (values_at values ds.Schedules id) (sym (are.schedules id) ∙ h) in (none of.Rule refl, (none of.Name refl, (none of.NextDate refl, (none of.Completed refl, (none of.PostsTransaction refl, (none of.Tombstone refl, tt)))))),
    λ h. are.schedules id ∙ no_row schedule_table id (values_at values ds.Schedules id) (schedules_unsaid values id h),
  );
  kinds = (kind ds.Schedules of.Rule, (kind ds.Schedules of.Name, (kind ds.Schedules of.NextDate, (kind ds.Schedules of.Completed, (kind ds.Schedules of.PostsTransaction, (kind ds.Schedules of.Tombstone, tt))))));
  others = λ column h.
      let none = no_kind ds.Schedules (names_of schedules) column schedules_named h in
      (none, λ rows id value. unknown_stays rows (field_of schedules.name id column) value none);
}

-- ---- category mappings

category_mappings_named : (c : Column) → is_among text_cmp (names_of category_mappings) (column_name c) ≡ false → dataset_kind ds.CategoryMapping c ≡ None
category_mappings_named of.TransferId h = absurd (true≢false h)
category_mappings_named other h = refl

category_mappings_unsaid : (values : Values) (id : Text) → AllByRecursion (λ c. values (field_of category_mappings.name id c.name) ≡ None) category_mappings.columns → (c : Column) → is_some ((category_mapping_table).kind c) ≡ true → values_at values ds.CategoryMapping id c ≡ None
category_mappings_unsaid values id h of.TransferId e = h.0
category_mappings_unsaid values id h other e = absurd (true≢false (sym e))

category_mappings_told : IsTold category_mappings
category_mappings_told = record {
  set = λ rows id value. (cell ds.CategoryMapping of.TransferId rows id value, tt);
  read = λ values rows id row are h. subst (λ x. (category_mappings.id x ≡ id) × AllByRecursion (λ c. c.set (said values category_mappings.name id c.name) x ≡ x) category_mappings.columns) (row_made category_mapping_table id (values_at values ds.CategoryMapping id) row (sym (are.category_mappings id) ∙ h)) (refl, (refl, tt));
  none = λ values rows id are. (
    λ h. let none = no_values category_mapping_table id (values_at values ds.CategoryMapping id) (sym (are.category_mappings id) ∙ h) in (none of.TransferId refl, tt),
    λ h. are.category_mappings id ∙ no_row category_mapping_table id (values_at values ds.CategoryMapping id) (category_mappings_unsaid values id h),
  );
  kinds = (kind ds.CategoryMapping of.TransferId, tt);
  others = λ column h.
      let none = no_kind ds.CategoryMapping (names_of category_mappings) column category_mappings_named h in
      (none, λ rows id value. unknown_stays rows (field_of category_mappings.name id column) value none);
}

-- ---- payee mappings

payee_mappings_named : (c : Column) → is_among text_cmp (names_of payee_mappings) (column_name c) ≡ false → dataset_kind ds.PayeeMapping c ≡ None
payee_mappings_named of.TargetId h = absurd (true≢false h)
payee_mappings_named other h = refl

payee_mappings_unsaid : (values : Values) (id : Text) → AllByRecursion (λ c. values (field_of payee_mappings.name id c.name) ≡ None) payee_mappings.columns → (c : Column) → is_some ((payee_mapping_table).kind c) ≡ true → values_at values ds.PayeeMapping id c ≡ None
payee_mappings_unsaid values id h of.TargetId e = h.0
payee_mappings_unsaid values id h other e = absurd (true≢false (sym e))

payee_mappings_told : IsTold payee_mappings
payee_mappings_told = record {
  set = λ rows id value. (cell ds.PayeeMapping of.TargetId rows id value, tt);
  read = λ values rows id row are h. subst (λ x. (payee_mappings.id x ≡ id) × AllByRecursion (λ c. c.set (said values payee_mappings.name id c.name) x ≡ x) payee_mappings.columns) (row_made payee_mapping_table id (values_at values ds.PayeeMapping id) row (sym (are.payee_mappings id) ∙ h)) (refl, (refl, tt));
  none = λ values rows id are. (
    λ h. let none = no_values payee_mapping_table id (values_at values ds.PayeeMapping id) (sym (are.payee_mappings id) ∙ h) in (none of.TargetId refl, tt),
    λ h. are.payee_mappings id ∙ no_row payee_mapping_table id (values_at values ds.PayeeMapping id) (payee_mappings_unsaid values id h),
  );
  kinds = (kind ds.PayeeMapping of.TargetId, tt);
  others = λ column h.
      let none = no_kind ds.PayeeMapping (names_of payee_mappings) column payee_mappings_named h in
      (none, λ rows id value. unknown_stays rows (field_of payee_mappings.name id column) value none);
}

-- ---- no other dataset

dataset_named_there : (d : Dataset) → is_among text_cmp dataset_names (dataset_name d) ≡ false → ⊥
dataset_named_there ds.Accounts h = true≢false h
dataset_named_there ds.CategoryGroups h = true≢false h
dataset_named_there ds.Categories h = true≢false h
dataset_named_there ds.Payees h = true≢false h
dataset_named_there ds.Transactions h = true≢false h
dataset_named_there ds.ZeroBudgets h = true≢false h
dataset_named_there ds.ReflectBudgets h = true≢false h
dataset_named_there ds.ZeroBudgetMonths h = true≢false h
dataset_named_there ds.Notes h = true≢false h
dataset_named_there ds.Rules h = true≢false h
dataset_named_there ds.Schedules h = true≢false h
dataset_named_there ds.CategoryMapping h = true≢false h
dataset_named_there ds.PayeeMapping h = true≢false h

no_dataset : (dataset : Text) → is_among text_cmp dataset_names dataset ≡ false → (rows : Rows) (id column : Text) (value : Value) → with_field rows (field_of dataset id column) value ≡ rows
no_dataset dataset h rows id column value = by (dataset_of dataset) refl
  where
    by : (o : Option Dataset) → dataset_of dataset ≡ o → with_known o (column_of column) id value rows ≡ rows
    by None e = refl
    by (Some d) e = absurd (dataset_named_there d (sym (ap (is_among text_cmp dataset_names) (dataset_named dataset d e)) ∙ h))

pub columns_are_told_lem : ColumnsAreTold
columns_are_told_lem = record {
  accounts = accounts_told;
  groups = groups_told;
  categories = categories_told;
  payees = payees_told;
  transactions = transactions_told;
  budgets = budgets_told;
  tracked = tracked_told;
  months = months_told;
  notes = notes_told;
  rules = rules_told;
  schedules = schedules_told;
  category_mappings = category_mappings_told;
  payee_mappings = payee_mappings_told;
  others = no_dataset;
}
