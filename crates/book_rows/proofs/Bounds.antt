-- The numbers that are added up stay such as a value may hold.
use Rattle.std.proofs.Common.{◌≡◌, ℕ, Bool, true, false, cond, Option, Some, None, refl, sym, ◌∙◌, if◌then◌else◌, subst}
use Rattle.std.specs.Prelude.{is_some, unwrap_or}
use Rattle.std.specs.Ordering.{eq_by_cmp}
use Rattle.std.specs.FinMap as map
use Rattle.field_values.specs.declared.value.Value.{Value}
use Rattle.field_values.specs.declared.value.Value.TheVariants.{Null}
use Rattle.field_values.specs.Value.{HoldsNumber, IsValue}
use Rattle.finite_sums.specs.Maps.{Text, Texts, text_cmp}
use Rattle.finite_sums.proofs.Texts.{text_total}
use Rattle.book_rows.specs.declared.column.Column.{Column}
use Rattle.book_rows.specs.declared.column.Column.TheVariants.{Acct, Date, Amount, Category, Description, Notes, Name, Tombstone, SortOrder, Cleared, Reconciled, Note, IsParent, IsChild, ParentId, TransferredId, Schedule, ImportedDescription, FinancialId, CatGroup, IsIncome, Hidden, Offbudget, Closed, TransferAcct, Month, Carryover, Buffered, Stage, ConditionsOp, Conditions, Actions, Rule, NextDate, Completed, PostsTransaction, TransferId, TargetId}
use Rattle.book_rows.specs.declared.rows.TxRow.{TxRow}
use Rattle.book_rows.specs.declared.rows.BudgetRow.{BudgetRow}
use Rattle.book_rows.specs.declared.rows.MonthRow.{MonthRow}
use Rattle.book_rows.specs.Tables.{Table, blank_row, with_column}
use Rattle.book_rows.specs.Rules.{tx_table, budget_table, month_table, with_tx_column, with_budget_column, with_month_column}
use Rattle.book_rows.specs.Kinds.{is_day}
use Rattle.book_rows.specs.Book.{AreBounded, HaveDays}
use Rattle.book_rows.proofs.Named.{held}
use Rattle.book_rows.proofs.Days.{day_told}

module _ {Row : Type 0} (table : Table Row) (P : Row → Type 0) where
  abbrev All : Texts Row → Type 0
  All rows = (id : Text) (x : Row) → map.get rows id ≡ Some x → P x

  kept : (id : Text) (column : Column) (value : Value) (rows new : Texts Row) → All rows → new ≡ with_column table id column value rows
      → ((row : Row) → P row → P (table.set column value row)) → P (blank_row table id) → All new
  kept id column value rows new h set_one step none =
      subst All (sym set_one) (by (is_some (table.kind column)))
    where
      one : Row
      one = table.set column value (unwrap_or (map.get rows id) (blank_row table id))

      was : (o : Option Row) → ((x : Row) → o ≡ Some x → P x) → P (unwrap_or o (blank_row table id))
      was None k = none
      was (Some x) k = k x refl

      some_is : {A : Type 0} (x y : A) → Some x ≡ Some y → x ≡ y
      some_is x y e = cc

      pick : (b : Bool) (q : Text) (x : Row) → cond b (Some one) (map.get rows q) ≡ Some x → P x
      pick true q x e = subst P (some_is one x e) (step (unwrap_or (map.get rows id) (blank_row table id)) (was (map.get rows id) (h id)))
      pick false q x e = h q x e

      by : (b : Bool) → All (if b then map.insert rows id one else rows)
      by true = λ q x e. pick (eq_by_cmp text_cmp q id) q x (sym (map.get-insert text_total rows id one q) ∙ e)
      by false = h

-- a transaction's amount may be held, and its day is one
abbrev IsSound : TxRow → Type 0
IsSound x = HoldsNumber x.amount × ((day : ℕ) → x.date ≡ Some day → is_day day ≡ true)

tx_step : (column : Column) (value : Value) → IsValue value → (row : TxRow) → IsSound row → IsSound (with_tx_column column value row)
tx_step Acct value v row h = h
tx_step Date value v row h = (h.0, day_told value)
tx_step Amount value v row h = (held value v, h.1)
tx_step Category value v row h = h
tx_step Description value v row h = h
tx_step Notes value v row h = h
tx_step Name value v row h = h
tx_step Tombstone value v row h = h
tx_step SortOrder value v row h = h
tx_step Cleared value v row h = h
tx_step Reconciled value v row h = h
tx_step Note value v row h = h
tx_step IsParent value v row h = h
tx_step IsChild value v row h = h
tx_step ParentId value v row h = h
tx_step TransferredId value v row h = h
tx_step Schedule value v row h = h
tx_step ImportedDescription value v row h = h
tx_step FinancialId value v row h = h
tx_step CatGroup value v row h = h
tx_step IsIncome value v row h = h
tx_step Hidden value v row h = h
tx_step Offbudget value v row h = h
tx_step Closed value v row h = h
tx_step TransferAcct value v row h = h
tx_step Month value v row h = h
tx_step Carryover value v row h = h
tx_step Buffered value v row h = h
tx_step Stage value v row h = h
tx_step ConditionsOp value v row h = h
tx_step Conditions value v row h = h
tx_step Actions value v row h = h
tx_step Rule value v row h = h
tx_step NextDate value v row h = h
tx_step Completed value v row h = h
tx_step PostsTransaction value v row h = h
tx_step TransferId value v row h = h
tx_step TargetId value v row h = h

budget_step : (column : Column) (value : Value) → IsValue value → (row : BudgetRow) → HoldsNumber row.amount → HoldsNumber (with_budget_column column value row).amount
budget_step Acct value v row h = h
budget_step Date value v row h = h
budget_step Amount value v row h = held value v
budget_step Category value v row h = h
budget_step Description value v row h = h
budget_step Notes value v row h = h
budget_step Name value v row h = h
budget_step Tombstone value v row h = h
budget_step SortOrder value v row h = h
budget_step Cleared value v row h = h
budget_step Reconciled value v row h = h
budget_step Note value v row h = h
budget_step IsParent value v row h = h
budget_step IsChild value v row h = h
budget_step ParentId value v row h = h
budget_step TransferredId value v row h = h
budget_step Schedule value v row h = h
budget_step ImportedDescription value v row h = h
budget_step FinancialId value v row h = h
budget_step CatGroup value v row h = h
budget_step IsIncome value v row h = h
budget_step Hidden value v row h = h
budget_step Offbudget value v row h = h
budget_step Closed value v row h = h
budget_step TransferAcct value v row h = h
budget_step Month value v row h = h
budget_step Carryover value v row h = h
budget_step Buffered value v row h = h
budget_step Stage value v row h = h
budget_step ConditionsOp value v row h = h
budget_step Conditions value v row h = h
budget_step Actions value v row h = h
budget_step Rule value v row h = h
budget_step NextDate value v row h = h
budget_step Completed value v row h = h
budget_step PostsTransaction value v row h = h
budget_step TransferId value v row h = h
budget_step TargetId value v row h = h

month_step : (column : Column) (value : Value) → IsValue value → (row : MonthRow) → HoldsNumber row.buffered → HoldsNumber (with_month_column column value row).buffered
month_step Acct value v row h = h
month_step Date value v row h = h
month_step Amount value v row h = h
month_step Category value v row h = h
month_step Description value v row h = h
month_step Notes value v row h = h
month_step Name value v row h = h
month_step Tombstone value v row h = h
month_step SortOrder value v row h = h
month_step Cleared value v row h = h
month_step Reconciled value v row h = h
month_step Note value v row h = h
month_step IsParent value v row h = h
month_step IsChild value v row h = h
month_step ParentId value v row h = h
month_step TransferredId value v row h = h
month_step Schedule value v row h = h
month_step ImportedDescription value v row h = h
month_step FinancialId value v row h = h
month_step CatGroup value v row h = h
month_step IsIncome value v row h = h
month_step Hidden value v row h = h
month_step Offbudget value v row h = h
month_step Closed value v row h = h
month_step TransferAcct value v row h = h
month_step Month value v row h = h
month_step Carryover value v row h = h
month_step Buffered value v row h = held value v
month_step Stage value v row h = h
month_step ConditionsOp value v row h = h
month_step Conditions value v row h = h
month_step Actions value v row h = h
month_step Rule value v row h = h
month_step NextDate value v row h = h
month_step Completed value v row h = h
month_step PostsTransaction value v row h = h
month_step TransferId value v row h = h
month_step TargetId value v row h = h

no_day : (day : ℕ) → None ≡ Some day → is_day day ≡ true
no_day day h = cc

module _ (xs : Texts TxRow) (bs : Texts BudgetRow) (ms : Texts MonthRow) (ts : Texts BudgetRow) (id : Text) (column : Column) (value : Value) (v : IsValue value) (h : AreBounded xs bs ms ts) where
  tx_sound : HaveDays xs → (new : Texts TxRow) → new ≡ with_column tx_table id column value xs → (q : Text) (x : TxRow) → map.get new q ≡ Some x → IsSound x
  tx_sound days new set_one = kept tx_table IsSound id column value xs new (λ q x k. (h.txs q x k, λ day e. days q x day k e)) set_one (tx_step column value v) (held Null tt, no_day)

  pub tx_bounded : HaveDays xs → (new : Texts TxRow) → new ≡ with_column tx_table id column value xs → AreBounded new bs ms ts
  tx_bounded days new set_one = record { txs = λ q x k. (tx_sound days new set_one q x k).0; budgets = h.budgets; months = h.months; tracked = h.tracked }

  pub tx_days : HaveDays xs → (new : Texts TxRow) → new ≡ with_column tx_table id column value xs → HaveDays new
  tx_days days new set_one q x day k e = (tx_sound days new set_one q x k).1 day e

  pub budget_bounded : (new : Texts BudgetRow) → new ≡ with_column budget_table id column value bs → AreBounded xs new ms ts
  budget_bounded new set_one = record { txs = h.txs; budgets = kept budget_table (λ x. HoldsNumber x.amount) id column value bs new h.budgets set_one (budget_step column value v) (held Null tt); months = h.months; tracked = h.tracked }

  pub month_bounded : (new : Texts MonthRow) → new ≡ with_column month_table id column value ms → AreBounded xs bs new ts
  month_bounded new set_one = record { txs = h.txs; budgets = h.budgets; months = kept month_table (λ x. HoldsNumber x.buffered) id column value ms new h.months set_one (month_step column value v) (held Null tt); tracked = h.tracked }

  pub track_bounded : (new : Texts BudgetRow) → new ≡ with_column budget_table id column value ts → AreBounded xs bs ms new
  track_bounded new set_one = record { txs = h.txs; budgets = h.budgets; months = h.months; tracked = kept budget_table (λ x. HoldsNumber x.amount) id column value ts new h.tracked set_one (budget_step column value v) (held Null tt) }
