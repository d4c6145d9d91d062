-- The row that the values of columns make, and one of them set.
use Rattle.std.proofs.Common.{◌≡◌, true, refl, if◌then◌else◌}
use Rattle.std.specs.Prelude.{is_some}
use Rattle.field_values.specs.declared.value.Value.{Value}
use Rattle.finite_sums.specs.Maps.{Text}
use Rattle.book_rows.specs.declared.column.Column.{Column}
use Rattle.book_rows.specs.declared.column.Column.TheVariants.{Acct, Date, Amount, Category, Description, Notes, Name, Tombstone, SortOrder, Cleared, Reconciled, Note, IsParent, IsChild, ParentId, TransferredId, Schedule, ImportedDescription, FinancialId, CatGroup, IsIncome, Hidden, Offbudget, Closed, TransferAcct, Month, Carryover, Buffered, Stage, ConditionsOp, Conditions, Actions, Rule, NextDate, Completed, PostsTransaction, TransferId, TargetId}
use Rattle.book_rows.specs.Columns.{same_column}
use Rattle.book_rows.specs.Tables.{Table}
use Rattle.book_rows.specs.Rules.{account_table, group_table, category_table, payee_table, tx_table, budget_table, month_table, note_table, rule_table, schedule_table, category_mapping_table, payee_mapping_table}

-- the values with another one in a column
abbrev pub with_one : Column → Value → (Column → Value) → Column → Value
with_one c v g d = if same_column d c then v else g d

-- a row reads the columns of its dataset alone, and to set a column is to set its value
pub record IsTable {Row : Type 0} (table : Table Row) : Type 0 where
  pub after : (id : Text) (c : Column) (v : Value) (g : Column → Value) → table.row id (with_one c v g) ≡ table.set c v (table.row id g)
  pub depends : (id : Text) (f g : Column → Value) → ((c : Column) → is_some (table.kind c) ≡ true → f c ≡ g c) → table.row id f ≡ table.row id g

account_after : (id : Text) (c : Column) (v : Value) (g : Column → Value) → account_table.row id (with_one c v g) ≡ account_table.set c v (account_table.row id g)
account_after id Acct v g = refl
account_after id Date v g = refl
account_after id Amount v g = refl
account_after id Category v g = refl
account_after id Description v g = refl
account_after id Notes v g = refl
account_after id Name v g = refl
account_after id Tombstone v g = refl
account_after id SortOrder v g = refl
account_after id Cleared v g = refl
account_after id Reconciled v g = refl
account_after id Note v g = refl
account_after id IsParent v g = refl
account_after id IsChild v g = refl
account_after id ParentId v g = refl
account_after id TransferredId v g = refl
account_after id Schedule v g = refl
account_after id ImportedDescription v g = refl
account_after id FinancialId v g = refl
account_after id CatGroup v g = refl
account_after id IsIncome v g = refl
account_after id Hidden v g = refl
account_after id Offbudget v g = refl
account_after id Closed v g = refl
account_after id TransferAcct v g = refl
account_after id Month v g = refl
account_after id Carryover v g = refl
account_after id Buffered v g = refl
account_after id Stage v g = refl
account_after id ConditionsOp v g = refl
account_after id Conditions v g = refl
account_after id Actions v g = refl
account_after id Rule v g = refl
account_after id NextDate v g = refl
account_after id Completed v g = refl
account_after id PostsTransaction v g = refl
account_after id TransferId v g = refl
account_after id TargetId v g = refl

pub account_is : IsTable account_table
account_is = record {
  after = account_after;
  depends = λ id f g h.
      let e0 = h Name refl in
      let e1 = h Offbudget refl in
      let e2 = h Closed refl in
      let e3 = h SortOrder refl in
      let e4 = h Tombstone refl in
      cc;
}

group_after : (id : Text) (c : Column) (v : Value) (g : Column → Value) → group_table.row id (with_one c v g) ≡ group_table.set c v (group_table.row id g)
group_after id Acct v g = refl
group_after id Date v g = refl
group_after id Amount v g = refl
group_after id Category v g = refl
group_after id Description v g = refl
group_after id Notes v g = refl
group_after id Name v g = refl
group_after id Tombstone v g = refl
group_after id SortOrder v g = refl
group_after id Cleared v g = refl
group_after id Reconciled v g = refl
group_after id Note v g = refl
group_after id IsParent v g = refl
group_after id IsChild v g = refl
group_after id ParentId v g = refl
group_after id TransferredId v g = refl
group_after id Schedule v g = refl
group_after id ImportedDescription v g = refl
group_after id FinancialId v g = refl
group_after id CatGroup v g = refl
group_after id IsIncome v g = refl
group_after id Hidden v g = refl
group_after id Offbudget v g = refl
group_after id Closed v g = refl
group_after id TransferAcct v g = refl
group_after id Month v g = refl
group_after id Carryover v g = refl
group_after id Buffered v g = refl
group_after id Stage v g = refl
group_after id ConditionsOp v g = refl
group_after id Conditions v g = refl
group_after id Actions v g = refl
group_after id Rule v g = refl
group_after id NextDate v g = refl
group_after id Completed v g = refl
group_after id PostsTransaction v g = refl
group_after id TransferId v g = refl
group_after id TargetId v g = refl

pub group_is : IsTable group_table
group_is = record {
  after = group_after;
  depends = λ id f g h.
      let e0 = h Name refl in
      let e1 = h IsIncome refl in
      let e2 = h SortOrder refl in
      let e3 = h Hidden refl in
      let e4 = h Tombstone refl in
      cc;
}

category_after : (id : Text) (c : Column) (v : Value) (g : Column → Value) → category_table.row id (with_one c v g) ≡ category_table.set c v (category_table.row id g)
category_after id Acct v g = refl
category_after id Date v g = refl
category_after id Amount v g = refl
category_after id Category v g = refl
category_after id Description v g = refl
category_after id Notes v g = refl
category_after id Name v g = refl
category_after id Tombstone v g = refl
category_after id SortOrder v g = refl
category_after id Cleared v g = refl
category_after id Reconciled v g = refl
category_after id Note v g = refl
category_after id IsParent v g = refl
category_after id IsChild v g = refl
category_after id ParentId v g = refl
category_after id TransferredId v g = refl
category_after id Schedule v g = refl
category_after id ImportedDescription v g = refl
category_after id FinancialId v g = refl
category_after id CatGroup v g = refl
category_after id IsIncome v g = refl
category_after id Hidden v g = refl
category_after id Offbudget v g = refl
category_after id Closed v g = refl
category_after id TransferAcct v g = refl
category_after id Month v g = refl
category_after id Carryover v g = refl
category_after id Buffered v g = refl
category_after id Stage v g = refl
category_after id ConditionsOp v g = refl
category_after id Conditions v g = refl
category_after id Actions v g = refl
category_after id Rule v g = refl
category_after id NextDate v g = refl
category_after id Completed v g = refl
category_after id PostsTransaction v g = refl
category_after id TransferId v g = refl
category_after id TargetId v g = refl

pub category_is : IsTable category_table
category_is = record {
  after = category_after;
  depends = λ id f g h.
      let e0 = h Name refl in
      let e1 = h CatGroup refl in
      let e2 = h IsIncome refl in
      let e3 = h SortOrder refl in
      let e4 = h Hidden refl in
      let e5 = h Tombstone refl in
      cc;
}

payee_after : (id : Text) (c : Column) (v : Value) (g : Column → Value) → payee_table.row id (with_one c v g) ≡ payee_table.set c v (payee_table.row id g)
payee_after id Acct v g = refl
payee_after id Date v g = refl
payee_after id Amount v g = refl
payee_after id Category v g = refl
payee_after id Description v g = refl
payee_after id Notes v g = refl
payee_after id Name v g = refl
payee_after id Tombstone v g = refl
payee_after id SortOrder v g = refl
payee_after id Cleared v g = refl
payee_after id Reconciled v g = refl
payee_after id Note v g = refl
payee_after id IsParent v g = refl
payee_after id IsChild v g = refl
payee_after id ParentId v g = refl
payee_after id TransferredId v g = refl
payee_after id Schedule v g = refl
payee_after id ImportedDescription v g = refl
payee_after id FinancialId v g = refl
payee_after id CatGroup v g = refl
payee_after id IsIncome v g = refl
payee_after id Hidden v g = refl
payee_after id Offbudget v g = refl
payee_after id Closed v g = refl
payee_after id TransferAcct v g = refl
payee_after id Month v g = refl
payee_after id Carryover v g = refl
payee_after id Buffered v g = refl
payee_after id Stage v g = refl
payee_after id ConditionsOp v g = refl
payee_after id Conditions v g = refl
payee_after id Actions v g = refl
payee_after id Rule v g = refl
payee_after id NextDate v g = refl
payee_after id Completed v g = refl
payee_after id PostsTransaction v g = refl
payee_after id TransferId v g = refl
payee_after id TargetId v g = refl

pub payee_is : IsTable payee_table
payee_is = record {
  after = payee_after;
  depends = λ id f g h.
      let e0 = h Name refl in
      let e1 = h TransferAcct refl in
      let e2 = h Tombstone refl in
      cc;
}

tx_after : (id : Text) (c : Column) (v : Value) (g : Column → Value) → tx_table.row id (with_one c v g) ≡ tx_table.set c v (tx_table.row id g)
tx_after id Acct v g = refl
tx_after id Date v g = refl
tx_after id Amount v g = refl
tx_after id Category v g = refl
tx_after id Description v g = refl
tx_after id Notes v g = refl
tx_after id Name v g = refl
tx_after id Tombstone v g = refl
tx_after id SortOrder v g = refl
tx_after id Cleared v g = refl
tx_after id Reconciled v g = refl
tx_after id Note v g = refl
tx_after id IsParent v g = refl
tx_after id IsChild v g = refl
tx_after id ParentId v g = refl
tx_after id TransferredId v g = refl
tx_after id Schedule v g = refl
tx_after id ImportedDescription v g = refl
tx_after id FinancialId v g = refl
tx_after id CatGroup v g = refl
tx_after id IsIncome v g = refl
tx_after id Hidden v g = refl
tx_after id Offbudget v g = refl
tx_after id Closed v g = refl
tx_after id TransferAcct v g = refl
tx_after id Month v g = refl
tx_after id Carryover v g = refl
tx_after id Buffered v g = refl
tx_after id Stage v g = refl
tx_after id ConditionsOp v g = refl
tx_after id Conditions v g = refl
tx_after id Actions v g = refl
tx_after id Rule v g = refl
tx_after id NextDate v g = refl
tx_after id Completed v g = refl
tx_after id PostsTransaction v g = refl
tx_after id TransferId v g = refl
tx_after id TargetId v g = refl

pub tx_is : IsTable tx_table
tx_is = record {
  after = tx_after;
  depends = λ id f g h.
      let e0 = h Acct refl in
      let e1 = h Date refl in
      let e2 = h Amount refl in
      let e3 = h Description refl in
      let e4 = h Category refl in
      let e5 = h Notes refl in
      let e6 = h ImportedDescription refl in
      let e7 = h FinancialId refl in
      let e8 = h TransferredId refl in
      let e9 = h Schedule refl in
      let e10 = h IsParent refl in
      let e11 = h IsChild refl in
      let e12 = h ParentId refl in
      let e13 = h Cleared refl in
      let e14 = h Reconciled refl in
      let e15 = h SortOrder refl in
      let e16 = h Tombstone refl in
      cc;
}

budget_after : (id : Text) (c : Column) (v : Value) (g : Column → Value) → budget_table.row id (with_one c v g) ≡ budget_table.set c v (budget_table.row id g)
budget_after id Acct v g = refl
budget_after id Date v g = refl
budget_after id Amount v g = refl
budget_after id Category v g = refl
budget_after id Description v g = refl
budget_after id Notes v g = refl
budget_after id Name v g = refl
budget_after id Tombstone v g = refl
budget_after id SortOrder v g = refl
budget_after id Cleared v g = refl
budget_after id Reconciled v g = refl
budget_after id Note v g = refl
budget_after id IsParent v g = refl
budget_after id IsChild v g = refl
budget_after id ParentId v g = refl
budget_after id TransferredId v g = refl
budget_after id Schedule v g = refl
budget_after id ImportedDescription v g = refl
budget_after id FinancialId v g = refl
budget_after id CatGroup v g = refl
budget_after id IsIncome v g = refl
budget_after id Hidden v g = refl
budget_after id Offbudget v g = refl
budget_after id Closed v g = refl
budget_after id TransferAcct v g = refl
budget_after id Month v g = refl
budget_after id Carryover v g = refl
budget_after id Buffered v g = refl
budget_after id Stage v g = refl
budget_after id ConditionsOp v g = refl
budget_after id Conditions v g = refl
budget_after id Actions v g = refl
budget_after id Rule v g = refl
budget_after id NextDate v g = refl
budget_after id Completed v g = refl
budget_after id PostsTransaction v g = refl
budget_after id TransferId v g = refl
budget_after id TargetId v g = refl

pub budget_is : IsTable budget_table
budget_is = record {
  after = budget_after;
  depends = λ id f g h.
      let e0 = h Month refl in
      let e1 = h Category refl in
      let e2 = h Amount refl in
      let e3 = h Carryover refl in
      cc;
}

month_after : (id : Text) (c : Column) (v : Value) (g : Column → Value) → month_table.row id (with_one c v g) ≡ month_table.set c v (month_table.row id g)
month_after id Acct v g = refl
month_after id Date v g = refl
month_after id Amount v g = refl
month_after id Category v g = refl
month_after id Description v g = refl
month_after id Notes v g = refl
month_after id Name v g = refl
month_after id Tombstone v g = refl
month_after id SortOrder v g = refl
month_after id Cleared v g = refl
month_after id Reconciled v g = refl
month_after id Note v g = refl
month_after id IsParent v g = refl
month_after id IsChild v g = refl
month_after id ParentId v g = refl
month_after id TransferredId v g = refl
month_after id Schedule v g = refl
month_after id ImportedDescription v g = refl
month_after id FinancialId v g = refl
month_after id CatGroup v g = refl
month_after id IsIncome v g = refl
month_after id Hidden v g = refl
month_after id Offbudget v g = refl
month_after id Closed v g = refl
month_after id TransferAcct v g = refl
month_after id Month v g = refl
month_after id Carryover v g = refl
month_after id Buffered v g = refl
month_after id Stage v g = refl
month_after id ConditionsOp v g = refl
month_after id Conditions v g = refl
month_after id Actions v g = refl
month_after id Rule v g = refl
month_after id NextDate v g = refl
month_after id Completed v g = refl
month_after id PostsTransaction v g = refl
month_after id TransferId v g = refl
month_after id TargetId v g = refl

pub month_is : IsTable month_table
month_is = record {
  after = month_after;
  depends = λ id f g h.
      let e0 = h Buffered refl in
      cc;
}

note_after : (id : Text) (c : Column) (v : Value) (g : Column → Value) → note_table.row id (with_one c v g) ≡ note_table.set c v (note_table.row id g)
note_after id Acct v g = refl
note_after id Date v g = refl
note_after id Amount v g = refl
note_after id Category v g = refl
note_after id Description v g = refl
note_after id Notes v g = refl
note_after id Name v g = refl
note_after id Tombstone v g = refl
note_after id SortOrder v g = refl
note_after id Cleared v g = refl
note_after id Reconciled v g = refl
note_after id Note v g = refl
note_after id IsParent v g = refl
note_after id IsChild v g = refl
note_after id ParentId v g = refl
note_after id TransferredId v g = refl
note_after id Schedule v g = refl
note_after id ImportedDescription v g = refl
note_after id FinancialId v g = refl
note_after id CatGroup v g = refl
note_after id IsIncome v g = refl
note_after id Hidden v g = refl
note_after id Offbudget v g = refl
note_after id Closed v g = refl
note_after id TransferAcct v g = refl
note_after id Month v g = refl
note_after id Carryover v g = refl
note_after id Buffered v g = refl
note_after id Stage v g = refl
note_after id ConditionsOp v g = refl
note_after id Conditions v g = refl
note_after id Actions v g = refl
note_after id Rule v g = refl
note_after id NextDate v g = refl
note_after id Completed v g = refl
note_after id PostsTransaction v g = refl
note_after id TransferId v g = refl
note_after id TargetId v g = refl

pub note_is : IsTable note_table
note_is = record {
  after = note_after;
  depends = λ id f g h.
      let e0 = h Note refl in
      cc;
}

rule_after : (id : Text) (c : Column) (v : Value) (g : Column → Value) → rule_table.row id (with_one c v g) ≡ rule_table.set c v (rule_table.row id g)
rule_after id Acct v g = refl
rule_after id Date v g = refl
rule_after id Amount v g = refl
rule_after id Category v g = refl
rule_after id Description v g = refl
rule_after id Notes v g = refl
rule_after id Name v g = refl
rule_after id Tombstone v g = refl
rule_after id SortOrder v g = refl
rule_after id Cleared v g = refl
rule_after id Reconciled v g = refl
rule_after id Note v g = refl
rule_after id IsParent v g = refl
rule_after id IsChild v g = refl
rule_after id ParentId v g = refl
rule_after id TransferredId v g = refl
rule_after id Schedule v g = refl
rule_after id ImportedDescription v g = refl
rule_after id FinancialId v g = refl
rule_after id CatGroup v g = refl
rule_after id IsIncome v g = refl
rule_after id Hidden v g = refl
rule_after id Offbudget v g = refl
rule_after id Closed v g = refl
rule_after id TransferAcct v g = refl
rule_after id Month v g = refl
rule_after id Carryover v g = refl
rule_after id Buffered v g = refl
rule_after id Stage v g = refl
rule_after id ConditionsOp v g = refl
rule_after id Conditions v g = refl
rule_after id Actions v g = refl
rule_after id Rule v g = refl
rule_after id NextDate v g = refl
rule_after id Completed v g = refl
rule_after id PostsTransaction v g = refl
rule_after id TransferId v g = refl
rule_after id TargetId v g = refl

pub rule_is : IsTable rule_table
rule_is = record {
  after = rule_after;
  depends = λ id f g h.
      let e0 = h Stage refl in
      let e1 = h ConditionsOp refl in
      let e2 = h Conditions refl in
      let e3 = h Actions refl in
      let e4 = h Tombstone refl in
      cc;
}

schedule_after : (id : Text) (c : Column) (v : Value) (g : Column → Value) → schedule_table.row id (with_one c v g) ≡ schedule_table.set c v (schedule_table.row id g)
schedule_after id Acct v g = refl
schedule_after id Date v g = refl
schedule_after id Amount v g = refl
schedule_after id Category v g = refl
schedule_after id Description v g = refl
schedule_after id Notes v g = refl
schedule_after id Name v g = refl
schedule_after id Tombstone v g = refl
schedule_after id SortOrder v g = refl
schedule_after id Cleared v g = refl
schedule_after id Reconciled v g = refl
schedule_after id Note v g = refl
schedule_after id IsParent v g = refl
schedule_after id IsChild v g = refl
schedule_after id ParentId v g = refl
schedule_after id TransferredId v g = refl
schedule_after id Schedule v g = refl
schedule_after id ImportedDescription v g = refl
schedule_after id FinancialId v g = refl
schedule_after id CatGroup v g = refl
schedule_after id IsIncome v g = refl
schedule_after id Hidden v g = refl
schedule_after id Offbudget v g = refl
schedule_after id Closed v g = refl
schedule_after id TransferAcct v g = refl
schedule_after id Month v g = refl
schedule_after id Carryover v g = refl
schedule_after id Buffered v g = refl
schedule_after id Stage v g = refl
schedule_after id ConditionsOp v g = refl
schedule_after id Conditions v g = refl
schedule_after id Actions v g = refl
schedule_after id Rule v g = refl
schedule_after id NextDate v g = refl
schedule_after id Completed v g = refl
schedule_after id PostsTransaction v g = refl
schedule_after id TransferId v g = refl
schedule_after id TargetId v g = refl

pub schedule_is : IsTable schedule_table
schedule_is = record {
  after = schedule_after;
  depends = λ id f g h.
      let e0 = h Rule refl in
      let e1 = h Name refl in
      let e2 = h NextDate refl in
      let e3 = h Completed refl in
      let e4 = h PostsTransaction refl in
      let e5 = h Tombstone refl in
      cc;
}

category_mapping_after : (id : Text) (c : Column) (v : Value) (g : Column → Value) → category_mapping_table.row id (with_one c v g) ≡ category_mapping_table.set c v (category_mapping_table.row id g)
category_mapping_after id Acct v g = refl
category_mapping_after id Date v g = refl
category_mapping_after id Amount v g = refl
category_mapping_after id Category v g = refl
category_mapping_after id Description v g = refl
category_mapping_after id Notes v g = refl
category_mapping_after id Name v g = refl
category_mapping_after id Tombstone v g = refl
category_mapping_after id SortOrder v g = refl
category_mapping_after id Cleared v g = refl
category_mapping_after id Reconciled v g = refl
category_mapping_after id Note v g = refl
category_mapping_after id IsParent v g = refl
category_mapping_after id IsChild v g = refl
category_mapping_after id ParentId v g = refl
category_mapping_after id TransferredId v g = refl
category_mapping_after id Schedule v g = refl
category_mapping_after id ImportedDescription v g = refl
category_mapping_after id FinancialId v g = refl
category_mapping_after id CatGroup v g = refl
category_mapping_after id IsIncome v g = refl
category_mapping_after id Hidden v g = refl
category_mapping_after id Offbudget v g = refl
category_mapping_after id Closed v g = refl
category_mapping_after id TransferAcct v g = refl
category_mapping_after id Month v g = refl
category_mapping_after id Carryover v g = refl
category_mapping_after id Buffered v g = refl
category_mapping_after id Stage v g = refl
category_mapping_after id ConditionsOp v g = refl
category_mapping_after id Conditions v g = refl
category_mapping_after id Actions v g = refl
category_mapping_after id Rule v g = refl
category_mapping_after id NextDate v g = refl
category_mapping_after id Completed v g = refl
category_mapping_after id PostsTransaction v g = refl
category_mapping_after id TransferId v g = refl
category_mapping_after id TargetId v g = refl

pub category_mapping_is : IsTable category_mapping_table
category_mapping_is = record {
  after = category_mapping_after;
  depends = λ id f g h.
      let e0 = h TransferId refl in
      cc;
}

payee_mapping_after : (id : Text) (c : Column) (v : Value) (g : Column → Value) → payee_mapping_table.row id (with_one c v g) ≡ payee_mapping_table.set c v (payee_mapping_table.row id g)
payee_mapping_after id Acct v g = refl
payee_mapping_after id Date v g = refl
payee_mapping_after id Amount v g = refl
payee_mapping_after id Category v g = refl
payee_mapping_after id Description v g = refl
payee_mapping_after id Notes v g = refl
payee_mapping_after id Name v g = refl
payee_mapping_after id Tombstone v g = refl
payee_mapping_after id SortOrder v g = refl
payee_mapping_after id Cleared v g = refl
payee_mapping_after id Reconciled v g = refl
payee_mapping_after id Note v g = refl
payee_mapping_after id IsParent v g = refl
payee_mapping_after id IsChild v g = refl
payee_mapping_after id ParentId v g = refl
payee_mapping_after id TransferredId v g = refl
payee_mapping_after id Schedule v g = refl
payee_mapping_after id ImportedDescription v g = refl
payee_mapping_after id FinancialId v g = refl
payee_mapping_after id CatGroup v g = refl
payee_mapping_after id IsIncome v g = refl
payee_mapping_after id Hidden v g = refl
payee_mapping_after id Offbudget v g = refl
payee_mapping_after id Closed v g = refl
payee_mapping_after id TransferAcct v g = refl
payee_mapping_after id Month v g = refl
payee_mapping_after id Carryover v g = refl
payee_mapping_after id Buffered v g = refl
payee_mapping_after id Stage v g = refl
payee_mapping_after id ConditionsOp v g = refl
payee_mapping_after id Conditions v g = refl
payee_mapping_after id Actions v g = refl
payee_mapping_after id Rule v g = refl
payee_mapping_after id NextDate v g = refl
payee_mapping_after id Completed v g = refl
payee_mapping_after id PostsTransaction v g = refl
payee_mapping_after id TransferId v g = refl
payee_mapping_after id TargetId v g = refl

pub payee_mapping_is : IsTable payee_mapping_table
payee_mapping_is = record {
  after = payee_mapping_after;
  depends = λ id f g h.
      let e0 = h TargetId refl in
      cc;
}
