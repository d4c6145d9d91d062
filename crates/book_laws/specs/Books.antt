-- How books are read: values, months, the rows that stand, lists of transactions, and balances.
use Rattle.std.specs.Prelude.{ℕ, ℤ, pos, ◌+◌, ◌*◌, ◌<◌, ◌≤◌, ◌≡◌, ◌≢◌, ◌↔◌, ◌++◌, true, false, Some, codes}
use Rattle.std.specs.List.Sorted.{IsStrictlySortedBy}
use Rattle.std.specs.FinMap as map
use Rattle.jiff_core.specs.Calendar.{IsCivilDate}
use Rattle.field_values.specs.declared.value.Value.{Value}
use Rattle.field_values.specs.declared.value.Value.TheVariants.{Number, Text as IsText}
use Rattle.finite_sums.specs.Sums.{total}
use Rattle.finite_sums.specs.Maps.{Text, text_cmp, value_or_zero, is_among}
use Rattle.book_rows.specs.declared.rows.Rows.{Rows}
use Rattle.book_rows.specs.declared.rows.AccountRow.{AccountRow}
use Rattle.book_rows.specs.declared.rows.GroupRow.{GroupRow}
use Rattle.book_rows.specs.declared.rows.PayeeRow.{PayeeRow}
use Rattle.book_rows.specs.declared.rows.RuleRow.{RuleRow}
use Rattle.book_rows.specs.declared.rows.ScheduleRow.{ScheduleRow}
use Rattle.book_rows.specs.declared.rows.TxRow.{TxRow}
use Rattle.book_rows.specs.Kinds.{flag_of, int_of, text_of, day_of, is_day}
use Rattle.book_rows.specs.Ids.{budget_id, month_id}
use Rattle.book_rows.specs.Live.{is_live_account, is_live_group, is_live_payee, is_live_rule, is_live_schedule, is_alive, is_live_tx}
use Rattle.book_rows.specs.Months.{is_month, month_of_row, budget_month, month_row_month}
use Rattle.book_rows.specs.Parts.{children_of, account_txs, category_txs, schedule_txs}
use Rattle.book_rows.specs.Balances.{adds, balance_of}

-- a number YYYYMMDD writes a day of the calendar from 1970 to 2199
pub record WritesDay (n : ℕ) : Type 0 where
  pub year : ℕ
  pub month : ℕ
  pub place : ℕ
  pub from : 1970 ≤ year
  pub to : year ≤ 2199
  pub civil : IsCivilDate (pos year) month place
  pub written : n ≡ year * 10_000 + month * 100 + place

-- how a value is read in a column of each kind
pub record ValuesAreRead : Type 0 where
  -- a flag is set by the number 1 alone
  pub flag : (v : Value) → (flag_of v ≡ true) ↔ (v ≡ Number (pos 1))
  -- a number is read as it stands, and what is none as 0
  pub number : (n : ℤ) → int_of (Number n) ≡ n
  pub no_number : (v : Value) → ((n : ℤ) → v ≢ Number n) → int_of v ≡ pos 0
  -- a text is read as it stands, and from a text alone
  pub text : (v : Value) (t : Text) → (text_of v ≡ Some t) ↔ (v ≡ IsText t)
  -- a day is read from a number alone, which writes it
  pub day : (v : Value) (n : ℕ) → (day_of v ≡ Some n) ↔ ((v ≡ Number (pos n)) × (is_day n ≡ true))
  pub calendar : (n : ℕ) → (is_day n ≡ true) ↔ WritesDay n

-- a number YYYYMM is a month of a year from 1970 to 2199
pub record WritesMonth (n : ℕ) : Type 0 where
  pub year : ℕ
  pub month : ℕ
  pub from : 1970 ≤ year
  pub to : year ≤ 2199
  pub first : 1 ≤ month
  pub last : month ≤ 12
  pub written : n ≡ year * 100 + month

-- which months rows have
pub record MonthsAreNamed : Type 0 where
  pub month : (n : ℕ) → (is_month n ≡ true) ↔ WritesMonth n
  -- a transaction has the month of its day
  pub day : (x : TxRow) (month : ℕ) → (month_of_row x ≡ Some month) ↔ ((place : ℕ) × (place < 100) × (x.date ≡ Some (month * 100 + place)))
  -- a budget row has the one of which its id is made, and so has a month row
  pub budget : (id : Text) (month : ℕ) → (budget_month id ≡ Some month) ↔ ((is_month month ≡ true) × ((category : Text) × (id ≡ budget_id category month)))
  pub held : (id : Text) (month : ℕ) → (month_row_month id ≡ Some month) ↔ ((is_month month ≡ true) × (id ≡ month_id month))
  -- these ids begin with the digits of the month, as those of March 2024
  pub budget_march : (category : Text) → budget_id category 202_403 ≡ codes "202403-" ++ category
  pub held_march : month_id 202_403 ≡ codes "2024-03"

-- which rows are there and were not deleted
pub record KeptRowsAreTold : Type 0 where
  pub account : (rows : Rows) (id : Text) → (is_live_account rows id ≡ true) ↔ ((a : AccountRow) × (map.get rows.accounts id ≡ Some a) × (a.tombstone ≡ false))
  pub group : (rows : Rows) (id : Text) → (is_live_group rows id ≡ true) ↔ ((g : GroupRow) × (map.get rows.groups id ≡ Some g) × (g.tombstone ≡ false))
  pub payee : (rows : Rows) (id : Text) → (is_live_payee rows id ≡ true) ↔ ((p : PayeeRow) × (map.get rows.payees id ≡ Some p) × (p.tombstone ≡ false))
  pub rule : (rows : Rows) (id : Text) → (is_live_rule rows id ≡ true) ↔ ((r : RuleRow) × (map.get rows.rules id ≡ Some r) × (r.tombstone ≡ false))
  pub schedule : (rows : Rows) (id : Text) → (is_live_schedule rows id ≡ true) ↔ ((s : ScheduleRow) × (map.get rows.schedules id ≡ Some s) × (s.tombstone ≡ false))
  -- a transaction is alive where it is there and live
  pub tx : (rows : Rows) (id : Text) → (is_alive rows id ≡ true) ↔ ((x : TxRow) × (map.get rows.txs id ≡ Some x) × (is_live_tx rows x ≡ true))

-- which transactions are listed as parts of one, as those of an account, as those that have a category in their column, and as those of a schedule: all
-- that say so, dead or alive, each once, in the order of the ids
pub record TransactionsAreListed (rows : Rows) : Type 0 where
  pub part : (id q : Text) → (is_among text_cmp (children_of rows id) q ≡ true) ↔ ((x : TxRow) × (map.get rows.txs q ≡ Some x) × (x.is_child ≡ true) × (x.parent_id ≡ Some id))
  pub own : (id q : Text) → (is_among text_cmp (account_txs rows id) q ≡ true) ↔ ((x : TxRow) × (map.get rows.txs q ≡ Some x) × (x.acct ≡ Some id))
  pub named : (id q : Text) → (is_among text_cmp (category_txs rows id) q ≡ true) ↔ ((x : TxRow) × (map.get rows.txs q ≡ Some x) × (x.category ≡ Some id))
  pub scheduled : (id q : Text) → (is_among text_cmp (schedule_txs rows id) q ≡ true) ↔ ((x : TxRow) × (map.get rows.txs q ≡ Some x) × (x.schedule ≡ Some id))
  pub parts_rise : (id : Text) → IsStrictlySortedBy text_cmp (children_of rows id)
  pub own_rise : (id : Text) → IsStrictlySortedBy text_cmp (account_txs rows id)
  pub named_rise : (id : Text) → IsStrictlySortedBy text_cmp (category_txs rows id)
  pub scheduled_rise : (id : Text) → IsStrictlySortedBy text_cmp (schedule_txs rows id)

-- what an account has
pub record BalancesAreTold (rows : Rows) : Type 0 where
  -- a transaction that is dead adds nothing, and one that is split neither: its parts do. Each other one adds its amount
  pub dead : (x : TxRow) → is_live_tx rows x ≡ false → adds rows x ≡ pos 0
  pub split : (x : TxRow) → x.is_parent ≡ true → adds rows x ≡ pos 0
  pub whole : (x : TxRow) → is_live_tx rows x ≡ true → x.is_parent ≡ false → adds rows x ≡ x.amount
  -- the balance is what the transactions of the account add, each once
  pub sum : (account : Text) → balance_of rows account ≡ total (λ id. value_or_zero (adds rows) (map.get rows.txs id)) (account_txs rows account)
