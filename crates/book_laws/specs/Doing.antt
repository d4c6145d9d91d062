-- What edits do, in the rows that they leave.
use Rattle.std.specs.Prelude.{◌≡◌, ◌≢◌, ℕ, ℤ, pos, Bool, true, false, List, [], Option, None, Some, Ok}
use Rattle.std.specs.FinMap as map
use Rattle.finite_sums.specs.Maps.{Text}
use Rattle.book_rows.specs.declared.rows.Rows.{Rows}
use Rattle.book_rows.specs.declared.rows.AccountRow.{AccountRow}
use Rattle.book_rows.specs.declared.rows.GroupRow.{GroupRow}
use Rattle.book_rows.specs.declared.rows.CategoryRow.{CategoryRow}
use Rattle.book_rows.specs.declared.rows.PayeeRow.{PayeeRow}
use Rattle.book_rows.specs.declared.rows.BudgetRow.{BudgetRow}
use Rattle.book_rows.specs.declared.rows.MonthRow.{MonthRow}
use Rattle.book_rows.specs.declared.rows.TxRow.{TxRow}
use Rattle.book_rows.specs.declared.write.Write.{Write}
use Rattle.book_rows.specs.Balances.{balance_of}
use Rattle.book_rows.specs.Ids.{budget_id, month_id}
use Rattle.book_edits.specs.Accounts.{account_add, account_rename, account_offbudget, account_reopen, account_close, payee_add, payee_rename, payee_delete}
use Rattle.book_edits.specs.Categories.{group_add, group_rename, group_delete, category_add, category_rename, category_move, category_delete}
use Rattle.book_edits.specs.Transactions.{tx_add}
use Rattle.book_edits.specs.Budgets.{budget, carryover, hold}
use Rattle.split_transfer.specs.Changes.{set_date, set_amount, set_account, set_payee, set_category, set_cleared, set_schedule, set_notes, tx_delete}
use Rattle.split_transfer.specs.After.{Ids, with_writes}

-- the id of a new row: the given one, or the one that the first write makes
abbrev pub new_id : Ids → Option Text → Text
new_id ids None = ids 0
new_id ids (Some id) = id

-- what plain edits do that are accepted, but for those that set a field, move an amount, note a text or are of the tracking budget, of which
-- Leaving says it, and those that hand on a category or merge payees, which HandingOn and Merging tell. A row of which nothing was there
-- before is live
pub record PlainEditsDo (ids : Ids) (rows : Rows) (ws : List Write) : Type 0 where
  -- an account has its name, and stands in the budget or outside, and its payee stands for it
  pub account : (id : Option Text) (name : Text) (off : Bool) → account_add rows id name off ≡ Ok ws
      → (a : AccountRow) × (map.get (with_writes ids rows ws).accounts (new_id ids id) ≡ Some a) × (a.name ≡ Some name) × (a.offbudget ≡ off)
      × (map.get rows.accounts (new_id ids id) ≡ None → (a.tombstone ≡ false) × (a.closed ≡ false))
  pub stands_for : (id : Option Text) (name : Text) (off : Bool) → account_add rows id name off ≡ Ok ws
      → (p : PayeeRow) × (map.get (with_writes ids rows ws).payees (ids 2) ≡ Some p) × (p.transfer_acct ≡ Some (new_id ids id))
      × (map.get rows.payees (ids 2) ≡ None → p.tombstone ≡ false)
  pub renamed : (id name : Text) → account_rename rows id name ≡ Ok ws → (a : AccountRow) × (map.get (with_writes ids rows ws).accounts id ≡ Some a) × (a.name ≡ Some name)
  pub off : (id : Text) (off : Bool) → account_offbudget rows id off ≡ Ok ws → (a : AccountRow) × (map.get (with_writes ids rows ws).accounts id ≡ Some a) × (a.offbudget ≡ off)
  pub opened : (id : Text) → account_reopen rows id ≡ Ok ws → (a : AccountRow) × (map.get (with_writes ids rows ws).accounts id ≡ Some a) × (a.closed ≡ false)
  -- an account that is closed had nothing
  pub closed : (id : Text) → account_close rows id ≡ Ok ws → (a : AccountRow) × (map.get (with_writes ids rows ws).accounts id ≡ Some a) × (a.closed ≡ true) × (balance_of rows id ≡ pos 0)
  pub payee : (id : Option Text) (name : Text) → payee_add rows id name ≡ Ok ws → (p : PayeeRow) × (map.get (with_writes ids rows ws).payees (new_id ids id) ≡ Some p) × (p.name ≡ Some name)
      × (map.get rows.payees (new_id ids id) ≡ None → p.tombstone ≡ false)
  pub payee_renamed : (id name : Text) → payee_rename rows id name ≡ Ok ws → (p : PayeeRow) × (map.get (with_writes ids rows ws).payees id ≡ Some p) × (p.name ≡ Some name)
  pub payee_gone : (id : Text) → payee_delete rows id ≡ Ok ws → (p : PayeeRow) × (map.get (with_writes ids rows ws).payees id ≡ Some p) × (p.tombstone ≡ true)
  -- a group has its name, and takes income where it is to
  pub group : (id : Option Text) (name : Text) (income : Bool) → group_add rows id name income ≡ Ok ws
      → (g : GroupRow) × (map.get (with_writes ids rows ws).groups (new_id ids id) ≡ Some g) × (g.name ≡ Some name) × (g.is_income ≡ income)
      × (map.get rows.groups (new_id ids id) ≡ None → g.tombstone ≡ false)
  pub group_renamed : (id name : Text) → group_rename rows id name ≡ Ok ws → (g : GroupRow) × (map.get (with_writes ids rows ws).groups id ≡ Some g) × (g.name ≡ Some name)
  pub group_gone : (id : Text) → group_delete rows id ≡ Ok ws → (g : GroupRow) × (map.get (with_writes ids rows ws).groups id ≡ Some g) × (g.tombstone ≡ true)
  -- a category has its name and its group, and another group where it moves
  pub category : (id : Option Text) (group name : Text) → category_add rows id group name ≡ Ok ws
      → (c : CategoryRow) × (map.get (with_writes ids rows ws).categories (new_id ids id) ≡ Some c) × (c.name ≡ Some name) × (c.cat_group ≡ Some group)
      × (map.get rows.categories (new_id ids id) ≡ None → c.tombstone ≡ false)
  pub category_renamed : (id name : Text) → category_rename rows id name ≡ Ok ws → (c : CategoryRow) × (map.get (with_writes ids rows ws).categories id ≡ Some c) × (c.name ≡ Some name)
  pub moved : (id group : Text) → category_move rows id group ≡ Ok ws → (c : CategoryRow) × (map.get (with_writes ids rows ws).categories id ≡ Some c) × (c.cat_group ≡ Some group)
  pub category_gone : (id : Text) → category_delete rows id ≡ Ok ws → (c : CategoryRow) × (map.get (with_writes ids rows ws).categories id ≡ Some c) × (c.tombstone ≡ true)
  -- a transaction that was not there has all that is given, where empty notes are none, and is live and neither split nor part of a split or
  -- a pair
  pub tx : (id : Option Text) (account : Text) (date : ℕ) (amount : ℤ) (payee category : Option Text) (notes : Text) → tx_add rows id account date amount payee category notes ≡ Ok ws
      → map.get rows.txs (new_id ids id) ≡ None → (x : TxRow) × (map.get (with_writes ids rows ws).txs (new_id ids id) ≡ Some x) × (x.acct ≡ Some account) × (x.date ≡ Some date)
      × (x.amount ≡ amount) × (x.description ≡ payee) × (x.category ≡ category) × (notes ≢ [] → x.notes ≡ Some notes) × (notes ≡ [] → x.notes ≡ None)
      × (x.tombstone ≡ false) × (x.is_parent ≡ false) × (x.is_child ≡ false) × (x.transferred_id ≡ None)
  -- a category has what it is given in the month, and carries over where it is to, and the month holds back what it is to
  pub given : (month : ℕ) (category : Text) (amount : ℤ) → budget rows month category amount ≡ Ok ws
      → (b : BudgetRow) × (map.get (with_writes ids rows ws).budgets (budget_id category month) ≡ Some b) × (b.amount ≡ amount)
  pub carries : (month : ℕ) (category : Text) (flag : Bool) → carryover rows month category flag ≡ Ok ws
      → (b : BudgetRow) × (map.get (with_writes ids rows ws).budgets (budget_id category month) ≡ Some b) × (b.carryover ≡ flag)
  pub held : (month : ℕ) (amount : ℤ) → hold month amount ≡ Ok ws → (m : MonthRow) × (map.get (with_writes ids rows ws).months (month_id month) ≡ Some m) × (m.buffered ≡ amount)

-- what a change of a transaction does that is accepted
pub record ChangesDo (ids : Ids) (rows : Rows) (id : Text) (ws : List Write) : Type 0 where
  pub date : (day : ℕ) → set_date rows id day ≡ Ok ws → (x : TxRow) × (map.get (with_writes ids rows ws).txs id ≡ Some x) × (x.date ≡ Some day)
  pub amount : (z : ℤ) → set_amount rows id z ≡ Ok ws → (x : TxRow) × (map.get (with_writes ids rows ws).txs id ≡ Some x) × (x.amount ≡ z)
  pub account : (account : Text) → set_account rows id account ≡ Ok ws → (x : TxRow) × (map.get (with_writes ids rows ws).txs id ≡ Some x) × (x.acct ≡ Some account)
  pub payee : (payee : Option Text) → set_payee rows id payee ≡ Ok ws → (x : TxRow) × (map.get (with_writes ids rows ws).txs id ≡ Some x) × (x.description ≡ payee)
  pub category : (category : Option Text) → set_category rows id category ≡ Ok ws → (x : TxRow) × (map.get (with_writes ids rows ws).txs id ≡ Some x) × (x.category ≡ category)
  pub cleared : (cleared : Bool) → set_cleared rows id cleared ≡ Ok ws → (x : TxRow) × (map.get (with_writes ids rows ws).txs id ≡ Some x) × (x.cleared ≡ cleared)
  pub schedule : (schedule : Option Text) → set_schedule rows id schedule ≡ Ok ws → (x : TxRow) × (map.get (with_writes ids rows ws).txs id ≡ Some x) × (x.schedule ≡ schedule)
  -- empty notes are none
  pub notes : (text : Text) → set_notes rows id text ≡ Ok ws
      → (x : TxRow) × (map.get (with_writes ids rows ws).txs id ≡ Some x) × (text ≢ [] → x.notes ≡ Some text) × (text ≡ [] → x.notes ≡ None)
  pub gone : tx_delete rows id ≡ Ok ws → (x : TxRow) × (map.get (with_writes ids rows ws).txs id ≡ Some x) × (x.tombstone ≡ true)
