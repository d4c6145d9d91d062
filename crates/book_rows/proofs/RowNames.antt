-- Rows whose ids are names.
use Rattle.std.proofs.Common.{◌≡◌, Bool, true, false, cond, Option, Some, None, refl, sym, ap, ◌∙◌, subst, if◌then◌else◌}
use Rattle.std.specs.Prelude.{is_some, unwrap_or}
use Rattle.std.specs.Ordering.{eq_by_cmp}
use Rattle.std.specs.FinMap as map
use Rattle.std.specs.FinMap.{get-insert, get-empty}
use Rattle.field_values.specs.declared.value.Value.{Value}
use Rattle.field_values.specs.Names.{FieldNames, IsName}
use Rattle.finite_sums.specs.Maps.{Text, Texts, text_cmp}
use Rattle.finite_sums.proofs.Texts.{text_total, text_same}
use Rattle.book_rows.specs.declared.column.Column.{Column}
use Rattle.book_rows.specs.declared.column.Dataset.{Dataset}
use Rattle.book_rows.specs.declared.column.Dataset.TheVariants.{Accounts, CategoryGroups, Categories, Payees, Transactions, ZeroBudgets, ZeroBudgetMonths, Notes, Rules, Schedules, CategoryMapping, PayeeMapping, ReflectBudgets}
use Rattle.book_rows.specs.declared.rows.Rows.{Rows}
use Rattle.book_rows.specs.Columns.{dataset_of, column_of}
use Rattle.book_rows.specs.Named.{HasNames}
use Rattle.book_rows.specs.Rows.{no_rows, with_cell, with_known, with_field}
use Rattle.book_rows.specs.Rules.{account_table, group_table, category_table, payee_table, tx_table, budget_table, month_table, note_table, rule_table, schedule_table, category_mapping_table, payee_mapping_table}
use Rattle.book_rows.specs.Tables.{AreNamed, Table, blank_row, with_column}
use Rattle.book_rows.proofs.Pairs.{is_equal}

pub named-empty : {X : Type 0} → AreNamed {Row = X} map.empty
named-empty id x there = let none : None ≡ Some x = sym (get-empty text_cmp id) ∙ there in cc

-- a row that is put under a name
pub named-insert : {X : Type 0} (m : Texts X) (k : Text) (v : X) → IsName k → AreNamed m → AreNamed (map.insert m k v)
named-insert {X} m k v name named q x there = by (eq_by_cmp text_cmp q k) refl
  where
    by : (b : Bool) → eq_by_cmp text_cmp q k ≡ b → IsName q
    by true h = subst IsName (sym (text_same q k (is_equal _ h))) name
    by false h = named q x (sym (get-insert text_total m k v q ∙ ap (λ b. cond b (Some v) (map.get m q)) h) ∙ there)

column_named : {Row : Type 0} (t : Table Row) (id : Text) (c : Column) (v : Value) (m : Texts Row) → IsName id → AreNamed m → AreNamed (with_column t id c v m)
column_named {Row} t id c v m name named = by (is_some (t.kind c))
  where
    by : (b : Bool) → AreNamed (if b then map.insert m id (t.set c v (unwrap_or (map.get m id) (blank_row t id))) else m)
    by true = named-insert m id (t.set c v (unwrap_or (map.get m id) (blank_row t id))) name named
    by false = named

module _ (id : Text) (c : Column) (v : Value) (rows : Rows) (name : IsName id) (h : HasNames rows) where
  cell_named : (dataset : Dataset) → HasNames (with_cell dataset id c v rows)
  cell_named Accounts = record { accounts = column_named account_table id c v rows.accounts name h.accounts; groups = h.groups; categories = h.categories; payees = h.payees; txs = h.txs; budgets = h.budgets; months = h.months; notes = h.notes; rules = h.rules; schedules = h.schedules; category_mappings = h.category_mappings; payee_mappings = h.payee_mappings; tracked = h.tracked }
  cell_named CategoryGroups = record { accounts = h.accounts; groups = column_named group_table id c v rows.groups name h.groups; categories = h.categories; payees = h.payees; txs = h.txs; budgets = h.budgets; months = h.months; notes = h.notes; rules = h.rules; schedules = h.schedules; category_mappings = h.category_mappings; payee_mappings = h.payee_mappings; tracked = h.tracked }
  cell_named Categories = record { accounts = h.accounts; groups = h.groups; categories = column_named category_table id c v rows.categories name h.categories; payees = h.payees; txs = h.txs; budgets = h.budgets; months = h.months; notes = h.notes; rules = h.rules; schedules = h.schedules; category_mappings = h.category_mappings; payee_mappings = h.payee_mappings; tracked = h.tracked }
  cell_named Payees = record { accounts = h.accounts; groups = h.groups; categories = h.categories; payees = column_named payee_table id c v rows.payees name h.payees; txs = h.txs; budgets = h.budgets; months = h.months; notes = h.notes; rules = h.rules; schedules = h.schedules; category_mappings = h.category_mappings; payee_mappings = h.payee_mappings; tracked = h.tracked }
  cell_named Transactions = record { accounts = h.accounts; groups = h.groups; categories = h.categories; payees = h.payees; txs = column_named tx_table id c v rows.txs name h.txs; budgets = h.budgets; months = h.months; notes = h.notes; rules = h.rules; schedules = h.schedules; category_mappings = h.category_mappings; payee_mappings = h.payee_mappings; tracked = h.tracked }
  cell_named ZeroBudgets = record { accounts = h.accounts; groups = h.groups; categories = h.categories; payees = h.payees; txs = h.txs; budgets = column_named budget_table id c v rows.budgets name h.budgets; months = h.months; notes = h.notes; rules = h.rules; schedules = h.schedules; category_mappings = h.category_mappings; payee_mappings = h.payee_mappings; tracked = h.tracked }
  cell_named ZeroBudgetMonths = record { accounts = h.accounts; groups = h.groups; categories = h.categories; payees = h.payees; txs = h.txs; budgets = h.budgets; months = column_named month_table id c v rows.months name h.months; notes = h.notes; rules = h.rules; schedules = h.schedules; category_mappings = h.category_mappings; payee_mappings = h.payee_mappings; tracked = h.tracked }
  cell_named Notes = record { accounts = h.accounts; groups = h.groups; categories = h.categories; payees = h.payees; txs = h.txs; budgets = h.budgets; months = h.months; notes = column_named note_table id c v rows.notes name h.notes; rules = h.rules; schedules = h.schedules; category_mappings = h.category_mappings; payee_mappings = h.payee_mappings; tracked = h.tracked }
  cell_named Rules = record { accounts = h.accounts; groups = h.groups; categories = h.categories; payees = h.payees; txs = h.txs; budgets = h.budgets; months = h.months; notes = h.notes; rules = column_named rule_table id c v rows.rules name h.rules; schedules = h.schedules; category_mappings = h.category_mappings; payee_mappings = h.payee_mappings; tracked = h.tracked }
  cell_named Schedules = record { accounts = h.accounts; groups = h.groups; categories = h.categories; payees = h.payees; txs = h.txs; budgets = h.budgets; months = h.months; notes = h.notes; rules = h.rules; schedules = column_named schedule_table id c v rows.schedules name h.schedules; category_mappings = h.category_mappings; payee_mappings = h.payee_mappings; tracked = h.tracked }
  cell_named CategoryMapping = record { accounts = h.accounts; groups = h.groups; categories = h.categories; payees = h.payees; txs = h.txs; budgets = h.budgets; months = h.months; notes = h.notes; rules = h.rules; schedules = h.schedules; category_mappings = column_named category_mapping_table id c v rows.category_mappings name h.category_mappings; payee_mappings = h.payee_mappings; tracked = h.tracked }
  cell_named PayeeMapping = record { accounts = h.accounts; groups = h.groups; categories = h.categories; payees = h.payees; txs = h.txs; budgets = h.budgets; months = h.months; notes = h.notes; rules = h.rules; schedules = h.schedules; category_mappings = h.category_mappings; payee_mappings = column_named payee_mapping_table id c v rows.payee_mappings name h.payee_mappings; tracked = h.tracked }
  cell_named ReflectBudgets = record { accounts = h.accounts; groups = h.groups; categories = h.categories; payees = h.payees; txs = h.txs; budgets = h.budgets; months = h.months; notes = h.notes; rules = h.rules; schedules = h.schedules; category_mappings = h.category_mappings; payee_mappings = h.payee_mappings; tracked = column_named budget_table id c v rows.tracked name h.tracked }

known_named : (o : Option Dataset) (k : Option Column) (id : Text) (v : Value) (rows : Rows) → IsName id → HasNames rows → HasNames (with_known o k id v rows)
known_named None k id v rows name h = h
known_named (Some dataset) None id v rows name h = h
known_named (Some dataset) (Some c) id v rows name h = cell_named id c v rows name h dataset

-- a field of a name is set
pub field_named : (rows : Rows) (f : FieldNames) (v : Value) → IsName f.row → HasNames rows → HasNames (with_field rows f v)
field_named rows f v name h = known_named (dataset_of f.dataset) (column_of f.column) f.row v rows name h

pub no_rows_named : HasNames no_rows
no_rows_named = record { accounts = named-empty; groups = named-empty; categories = named-empty; payees = named-empty; txs = named-empty; budgets = named-empty; months = named-empty; notes = named-empty; rules = named-empty; schedules = named-empty; category_mappings = named-empty; payee_mappings = named-empty; tracked = named-empty }
