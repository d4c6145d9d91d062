-- What a book is.
use Rattle.std.specs.Prelude.{ℕ, ◌≡◌, ◌<◌, ◌^◌, Bool, true, false, ◌||◌, ◌&&◌, List, [], length, Option, None, Some, if◌then◌else◌}
use Rattle.std.specs.List.{list_any}
use Rattle.std.specs.declared.cmp.Ordering.{Ordering}
use Rattle.std.specs.Ordering.{nat_cmp, ordering_then, eq_by_cmp}
use Rattle.std.specs.BTreeMap as tree
use Rattle.std.specs.BTreeMap.{BTreeMap}
use Rattle.std.specs.BTreeSet as set
use Rattle.std.specs.BTreeSet.{BTreeSet}
use Rattle.std.specs.FinMap as map
use Rattle.field_values.specs.Value.{HoldsNumber}
use Rattle.finite_sums.specs.Maps.{Text, Texts, text_cmp, some_and}
use Rattle.book_rows.specs.declared.rows.Rows.{Rows}
use Rattle.book_rows.specs.declared.rows.TxRow.{TxRow}
use Rattle.book_rows.specs.declared.rows.BudgetRow.{BudgetRow}
use Rattle.book_rows.specs.declared.rows.MonthRow.{MonthRow}
use Rattle.book_rows.specs.Months.{month_of_row, budget_month, month_row_month}
use Rattle.book_rows.specs.Kinds.{is_day}
use Rattle.book_rows.specs.Parts.{is_text}
use Rattle.book_rows.specs.declared.column.Column.{Column}
use Rattle.book_rows.specs.declared.column.Column.TheVariants.{Acct, Category, Date, IsChild, ParentId, Schedule}
use Rattle.book_rows.specs.declared.txs.Keys.{Keys}
use Rattle.book_rows.specs.declared.txs.TxIndex.{TxIndex}

-- its rows, and whether a want of memory has spoilt it
pub record BookState : Type 0 where
  pub rows : Rows
  pub spent : Bool

-- each number that is added up is one that a value may hold
pub record AreBounded (xs : Texts TxRow) (bs : Texts BudgetRow) (ms : Texts MonthRow) (ts : Texts BudgetRow) : Type 0 where
  pub txs : (id : Text) (x : TxRow) → map.get xs id ≡ Some x → HoldsNumber x.amount
  pub budgets : (id : Text) (b : BudgetRow) → map.get bs id ≡ Some b → HoldsNumber b.amount
  pub months : (id : Text) (m : MonthRow) → map.get ms id ≡ Some m → HoldsNumber m.buffered
  pub tracked : (id : Text) (t : BudgetRow) → map.get ts id ≡ Some t → HoldsNumber t.amount

-- each day of a transaction is one of the calendar from 1970 to 2199
abbrev pub HaveDays : Texts TxRow → Type 0
HaveDays xs = (id : Text) (x : TxRow) (day : ℕ) → map.get xs id ≡ Some x → x.date ≡ Some day → is_day day ≡ true

-- how many rows there are of each kind, how great the numbers are that are added up, and that days are days
pub record HasSizes (rows : Rows) : Type 0 where
  pub accounts : length (map.entries rows.accounts) < 2 ^ 63
  pub groups : length (map.entries rows.groups) < 2 ^ 63
  pub categories : length (map.entries rows.categories) < 2 ^ 63
  pub payees : length (map.entries rows.payees) < 2 ^ 63
  pub txs : length (map.entries rows.txs) < 2 ^ 63
  pub budgets : length (map.entries rows.budgets) < 2 ^ 63
  pub months : length (map.entries rows.months) < 2 ^ 63
  pub notes : length (map.entries rows.notes) < 2 ^ 63
  pub rules : length (map.entries rows.rules) < 2 ^ 63
  pub schedules : length (map.entries rows.schedules) < 2 ^ 63
  pub category_mappings : length (map.entries rows.category_mappings) < 2 ^ 63
  pub payee_mappings : length (map.entries rows.payee_mappings) < 2 ^ 63
  pub tracked : length (map.entries rows.tracked) < 2 ^ 63
  pub numbers : AreBounded rows.txs rows.budgets rows.months rows.tracked
  pub days : HaveDays rows.txs

-- ---- the indexes

-- a month and an id: by month, then by id
abbrev pub dated_cmp : ℕ × Text → ℕ × Text → Ordering
dated_cmp a b = ordering_then (nat_cmp a.0 b.0) (text_cmp a.1 b.1)

-- an index has an id under a key
abbrev pub has_id : Option (BTreeSet Text) → Text → Bool
has_id None id = false
has_id (Some ids) id = set.contains text_cmp ids id

abbrev pub holds : BTreeMap Text (BTreeSet Text) → Text → Text → Bool
holds index key id = has_id (tree.get text_cmp index key) id

-- the ids under a key, in order
abbrev pub ids_in : Option (BTreeSet Text) → List Text
ids_in None = []
ids_in (Some ids) = ids.keys

abbrev pub ids_under : BTreeMap Text (BTreeSet Text) → Text → List Text
ids_under index key = ids_in (tree.get text_cmp index key)

-- the pair is that of a key and an id
abbrev pub is_pair : Text → Text → Text → Text → Bool
is_pair key id k q = eq_by_cmp text_cmp key k && eq_by_cmp text_cmp id q

-- the month is there, and it is this one
abbrev pub is_month_of : ℕ → Option ℕ → Bool
is_month_of month own = some_and (λ m. eq_by_cmp nat_cmp m month) own

-- a budget row or a month row has the month in its id
abbrev pub has_named : Texts BudgetRow → Texts MonthRow → ℕ → Bool
has_named budgets months month =
    list_any (λ e. is_month_of month (budget_month e.0)) (map.entries budgets)
    || list_any (λ e. is_month_of month (month_row_month e.0)) (map.entries months)

-- the transaction that one is a part of, if it is a part
abbrev pub parent_of : TxRow → Option Text
parent_of x = if x.is_child then x.parent_id else None

-- under which keys a transaction is found, if it is there
abbrev pub keys_of : Option TxRow → Keys
keys_of None = record { parent = None; account = None; category = None; schedule = None; month = None }
keys_of (Some x) = record { parent = parent_of x; account = x.acct; category = x.category; schedule = x.schedule; month = month_of_row x }

-- the indexes have each transaction under its keys, and no other
pub record IsTxIndex (index : TxIndex) (txs : Texts TxRow) : Type 0 where
  pub children : (key id : Text) → holds index.children key id ≡ is_text key (keys_of (map.get txs id)).parent
  pub accounts : (key id : Text) → holds index.accounts key id ≡ is_text key (keys_of (map.get txs id)).account
  pub categories : (key id : Text) → holds index.categories key id ≡ is_text key (keys_of (map.get txs id)).category
  pub schedules : (key id : Text) → holds index.schedules key id ≡ is_text key (keys_of (map.get txs id)).schedule
  pub months : (month : ℕ) (id : Text) → set.contains dated_cmp index.months (month, id) ≡ is_month_of month (keys_of (map.get txs id)).month

-- the indexes are right, the numbers that are added up are such as a value may hold, and days are days
pub record IsIndexed (index : TxIndex) (found : BTreeSet ℕ) (xs : Texts TxRow) (bs : Texts BudgetRow) (ms : Texts MonthRow) (ts : Texts BudgetRow) : Type 0 where
  pub txs : IsTxIndex index xs
  pub named : (month : ℕ) → set.contains nat_cmp found month ≡ has_named bs ms month
  pub numbers : AreBounded xs bs ms ts
  pub days : HaveDays xs

-- setting this column may move a transaction to other keys
abbrev pub moves : Column → Bool
moves Acct = true
moves Category = true
moves Date = true
moves IsChild = true
moves ParentId = true
moves Schedule = true
moves other = false

-- a transaction stands under these keys and no other
pub record HasKeys (index : TxIndex) (id : Text) (keys : Keys) : Type 0 where
  pub children : (key : Text) → holds index.children key id ≡ is_text key keys.parent
  pub accounts : (key : Text) → holds index.accounts key id ≡ is_text key keys.account
  pub categories : (key : Text) → holds index.categories key id ≡ is_text key keys.category
  pub schedules : (key : Text) → holds index.schedules key id ≡ is_text key keys.schedule
  pub months : (month : ℕ) → set.contains dated_cmp index.months (month, id) ≡ is_month_of month keys.month

-- a transaction then stands under these keys, and all others as before
pub record MovesKeys (old new : TxIndex) (id : Text) (keys : Keys) : Type 0 where
  pub children : (key q : Text) → holds new.children key q ≡ (if eq_by_cmp text_cmp q id then is_text key keys.parent else holds old.children key q)
  pub accounts : (key q : Text) → holds new.accounts key q ≡ (if eq_by_cmp text_cmp q id then is_text key keys.account else holds old.accounts key q)
  pub categories : (key q : Text) → holds new.categories key q ≡ (if eq_by_cmp text_cmp q id then is_text key keys.category else holds old.categories key q)
  pub schedules : (key q : Text) → holds new.schedules key q ≡ (if eq_by_cmp text_cmp q id then is_text key keys.schedule else holds old.schedules key q)
  pub months : (month : ℕ) (q : Text) → set.contains dated_cmp new.months (month, q) ≡ (if eq_by_cmp text_cmp q id then is_month_of month keys.month else set.contains dated_cmp old.months (month, q))
