-- The names of datasets and columns that a book knows.
use Rattle.std.specs.Prelude.{ℕ, Bool, nat_eq, ◌==◌, List, [], ◌∷◌, Option, Some, None, if◌then◌else◌, codes}
use Rattle.std.specs.Cmp.Lexicographic.{pointwise}
use Rattle.finite_sums.specs.Maps.{Text}
use Rattle.book_rows.specs.declared.column.Dataset.{Dataset}
use Rattle.book_rows.specs.declared.column.Dataset.TheVariants.{Transactions, ZeroBudgets, Accounts, CategoryGroups, Categories, Payees, ZeroBudgetMonths, Notes, Rules, Schedules, CategoryMapping, PayeeMapping, ReflectBudgets}
use Rattle.book_rows.specs.declared.column.Column.{Column}
use Rattle.book_rows.specs.declared.column.Column.TheVariants.{Acct, Date, Amount, Category, Description, Notes, Name, Tombstone, SortOrder, Cleared, Reconciled, Note, IsParent, IsChild, ParentId, TransferredId, Schedule, ImportedDescription, FinancialId, CatGroup, IsIncome, Hidden, Offbudget, Closed, TransferAcct, Month, Carryover, Buffered, Stage, ConditionsOp, Conditions, Actions, Rule, NextDate, Completed, PostsTransaction, TransferId, TargetId}

-- two texts are the same
unfoldable pub same_text : Text → Text → Bool
same_text a b = pointwise nat_eq a b

-- the names of the datasets
abbrev pub dataset_name : Dataset → Text
dataset_name Transactions = codes "transactions"
dataset_name ZeroBudgets = codes "zero_budgets"
dataset_name Accounts = codes "accounts"
dataset_name CategoryGroups = codes "category_groups"
dataset_name Categories = codes "categories"
dataset_name Payees = codes "payees"
dataset_name ZeroBudgetMonths = codes "zero_budget_months"
dataset_name Notes = codes "notes"
dataset_name Rules = codes "rules"
dataset_name Schedules = codes "schedules"
dataset_name CategoryMapping = codes "category_mapping"
dataset_name PayeeMapping = codes "payee_mapping"
dataset_name ReflectBudgets = codes "reflect_budgets"

-- the names of the columns
abbrev pub column_name : Column → Text
column_name Acct = codes "acct"
column_name Date = codes "date"
column_name Amount = codes "amount"
column_name Category = codes "category"
column_name Description = codes "description"
column_name Notes = codes "notes"
column_name Name = codes "name"
column_name Tombstone = codes "tombstone"
column_name SortOrder = codes "sort_order"
column_name Cleared = codes "cleared"
column_name Reconciled = codes "reconciled"
column_name Note = codes "note"
column_name IsParent = codes "isParent"
column_name IsChild = codes "isChild"
column_name ParentId = codes "parent_id"
column_name TransferredId = codes "transferred_id"
column_name Schedule = codes "schedule"
column_name ImportedDescription = codes "imported_description"
column_name FinancialId = codes "financial_id"
column_name CatGroup = codes "cat_group"
column_name IsIncome = codes "is_income"
column_name Hidden = codes "hidden"
column_name Offbudget = codes "offbudget"
column_name Closed = codes "closed"
column_name TransferAcct = codes "transfer_acct"
column_name Month = codes "month"
column_name Carryover = codes "carryover"
column_name Buffered = codes "buffered"
column_name Stage = codes "stage"
column_name ConditionsOp = codes "conditions_op"
column_name Conditions = codes "conditions"
column_name Actions = codes "actions"
column_name Rule = codes "rule"
column_name NextDate = codes "next_date"
column_name Completed = codes "completed"
column_name PostsTransaction = codes "posts_transaction"
column_name TransferId = codes "transferId"
column_name TargetId = codes "targetId"

-- the place of a column among all of them
abbrev pub column_number : Column → ℕ
column_number Acct = 0
column_number Date = 1
column_number Amount = 2
column_number Category = 3
column_number Description = 4
column_number Notes = 5
column_number Name = 6
column_number Tombstone = 7
column_number SortOrder = 8
column_number Cleared = 9
column_number Reconciled = 10
column_number Note = 11
column_number IsParent = 12
column_number IsChild = 13
column_number ParentId = 14
column_number TransferredId = 15
column_number Schedule = 16
column_number ImportedDescription = 17
column_number FinancialId = 18
column_number CatGroup = 19
column_number IsIncome = 20
column_number Hidden = 21
column_number Offbudget = 22
column_number Closed = 23
column_number TransferAcct = 24
column_number Month = 25
column_number Carryover = 26
column_number Buffered = 27
column_number Stage = 28
column_number ConditionsOp = 29
column_number Conditions = 30
column_number Actions = 31
column_number Rule = 32
column_number NextDate = 33
column_number Completed = 34
column_number PostsTransaction = 35
column_number TransferId = 36
column_number TargetId = 37

-- whether two columns are the same
abbrev pub same_column : Column → Column → Bool
same_column a b = column_number a == column_number b

-- all columns
abbrev pub all_columns : List Column
all_columns = Acct ∷ Date ∷ Amount ∷ Category ∷ Description ∷ Notes ∷ Name ∷ Tombstone ∷ SortOrder ∷ Cleared ∷ Reconciled ∷ Note ∷ IsParent ∷ IsChild ∷ ParentId ∷ TransferredId ∷ Schedule ∷ ImportedDescription ∷ FinancialId ∷ CatGroup ∷ IsIncome ∷ Hidden ∷ Offbudget ∷ Closed ∷ TransferAcct ∷ Month ∷ Carryover ∷ Buffered ∷ Stage ∷ ConditionsOp ∷ Conditions ∷ Actions ∷ Rule ∷ NextDate ∷ Completed ∷ PostsTransaction ∷ TransferId ∷ TargetId ∷ []

-- the dataset of a name, from the third six on
unfoldable pub last_dataset_of : Text → Option Dataset
last_dataset_of name =
    if same_text name (codes "reflect_budgets") then Some ReflectBudgets else
    None

-- the dataset of a name, from the second six on
unfoldable pub later_dataset_of : Text → Option Dataset
later_dataset_of name =
    if same_text name (codes "zero_budget_months") then Some ZeroBudgetMonths else
    if same_text name (codes "notes") then Some Notes else
    if same_text name (codes "rules") then Some Rules else
    if same_text name (codes "schedules") then Some Schedules else
    if same_text name (codes "category_mapping") then Some CategoryMapping else
    if same_text name (codes "payee_mapping") then Some PayeeMapping else
    last_dataset_of name

-- the dataset of a name
unfoldable pub dataset_of : Text → Option Dataset
dataset_of name =
    if same_text name (codes "transactions") then Some Transactions else
    if same_text name (codes "zero_budgets") then Some ZeroBudgets else
    if same_text name (codes "accounts") then Some Accounts else
    if same_text name (codes "category_groups") then Some CategoryGroups else
    if same_text name (codes "categories") then Some Categories else
    if same_text name (codes "payees") then Some Payees else
    later_dataset_of name

-- the column of a name, from the seventh six on
unfoldable pub seventh_column_of : Text → Option Column
seventh_column_of name =
    if same_text name (codes "transferId") then Some TransferId else
    if same_text name (codes "targetId") then Some TargetId else
    None

-- the column of a name, from the sixth six on
unfoldable pub sixth_column_of : Text → Option Column
sixth_column_of name =
    if same_text name (codes "conditions") then Some Conditions else
    if same_text name (codes "actions") then Some Actions else
    if same_text name (codes "rule") then Some Rule else
    if same_text name (codes "next_date") then Some NextDate else
    if same_text name (codes "completed") then Some Completed else
    if same_text name (codes "posts_transaction") then Some PostsTransaction else
    seventh_column_of name

-- the column of a name, from the fifth six on
unfoldable pub fifth_column_of : Text → Option Column
fifth_column_of name =
    if same_text name (codes "transfer_acct") then Some TransferAcct else
    if same_text name (codes "month") then Some Month else
    if same_text name (codes "carryover") then Some Carryover else
    if same_text name (codes "buffered") then Some Buffered else
    if same_text name (codes "stage") then Some Stage else
    if same_text name (codes "conditions_op") then Some ConditionsOp else
    sixth_column_of name

-- the column of a name, from the fourth six on
unfoldable pub fourth_column_of : Text → Option Column
fourth_column_of name =
    if same_text name (codes "financial_id") then Some FinancialId else
    if same_text name (codes "cat_group") then Some CatGroup else
    if same_text name (codes "is_income") then Some IsIncome else
    if same_text name (codes "hidden") then Some Hidden else
    if same_text name (codes "offbudget") then Some Offbudget else
    if same_text name (codes "closed") then Some Closed else
    fifth_column_of name

-- the column of a name, from the third six on
unfoldable pub third_column_of : Text → Option Column
third_column_of name =
    if same_text name (codes "isParent") then Some IsParent else
    if same_text name (codes "isChild") then Some IsChild else
    if same_text name (codes "parent_id") then Some ParentId else
    if same_text name (codes "transferred_id") then Some TransferredId else
    if same_text name (codes "schedule") then Some Schedule else
    if same_text name (codes "imported_description") then Some ImportedDescription else
    fourth_column_of name

-- the column of a name, from the second six on
unfoldable pub second_column_of : Text → Option Column
second_column_of name =
    if same_text name (codes "name") then Some Name else
    if same_text name (codes "tombstone") then Some Tombstone else
    if same_text name (codes "sort_order") then Some SortOrder else
    if same_text name (codes "cleared") then Some Cleared else
    if same_text name (codes "reconciled") then Some Reconciled else
    if same_text name (codes "note") then Some Note else
    third_column_of name

-- the column of a name
unfoldable pub column_of : Text → Option Column
column_of name =
    if same_text name (codes "acct") then Some Acct else
    if same_text name (codes "date") then Some Date else
    if same_text name (codes "amount") then Some Amount else
    if same_text name (codes "category") then Some Category else
    if same_text name (codes "description") then Some Description else
    if same_text name (codes "notes") then Some Notes else
    second_column_of name
