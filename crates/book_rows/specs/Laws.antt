-- What the laws say.
use Rattle.std.specs.Prelude.{ℕ, ◌≡◌, ◌↔◌, ◌⊎◌, Bool, true, false, Option, None, Some, IsSome}
use Rattle.std.specs.FinMap as map
use Rattle.field_values.specs.declared.value.Value.{Value}
use Rattle.field_values.specs.Names.{FieldNames}
use Rattle.finite_sums.specs.Maps.{Text, Texts}
use Rattle.book_rows.specs.declared.rows.Rows.{Rows}
use Rattle.book_rows.specs.declared.rows.AccountRow.{AccountRow}
use Rattle.book_rows.specs.declared.rows.GroupRow.{GroupRow}
use Rattle.book_rows.specs.declared.rows.CategoryRow.{CategoryRow}
use Rattle.book_rows.specs.declared.rows.TxRow.{TxRow}
use Rattle.book_rows.specs.declared.rows.BudgetRow.{BudgetRow}
use Rattle.book_rows.specs.declared.rows.MonthRow.{MonthRow}
use Rattle.book_rows.specs.Columns.{dataset_of}
use Rattle.book_rows.specs.Rows.{Values, AreRowsOf, no_rows, with_field, with_value, kind_of, is_row, has_row}
use Rattle.book_rows.specs.Live.{is_live_tx, is_counted, is_live_category, is_income_category, is_expense_category, category_of, payee_of}
use Rattle.book_rows.specs.Months.{month_of_row, budget_month, month_row_month, window_of}
use Rattle.book_rows.specs.Spans.{Spans}

-- how rows follow the values of fields
pub record RowsFollowFields : Type 0 where
  -- where no field has a value there are no rows
  pub none : AreRowsOf (λ field. None) no_rows
  -- to give a field a value in the rows is to give it that value among the values
  pub set : (values : Values) (rows : Rows) (field : FieldNames) (value : Value) → AreRowsOf values rows → AreRowsOf (with_value values field value) (with_field rows field value)
  -- the same values make the same rows
  pub one : (values : Values) (r s : Rows) → AreRowsOf values r → AreRowsOf values s → r ≡ s
  -- a dataset that isn't known, or a column that the dataset doesn't have, changes no row
  pub unknown : (rows : Rows) (field : FieldNames) (value : Value) → kind_of field.dataset field.column ≡ None → with_field rows field value ≡ rows
  -- the row of a field is there where a column of it that is known has a value
  pub there : (values : Values) (rows : Rows) (field : FieldNames) → AreRowsOf values rows → is_row rows (dataset_of field.dataset) field.row ≡ has_row values field

-- a transaction is a part of another one, which is there and was not deleted, or it is no part
pub record HasStandingParent (rows : Rows) (x : TxRow) : Type 0 where
  pub parent : x.is_child ≡ true → (id : Text) × (p : TxRow) × (x.parent_id ≡ Some id) × (map.get rows.txs id ≡ Some p) × (p.tombstone ≡ false)

-- a transaction that counts
pub record Counts (rows : Rows) (x : TxRow) : Type 0 where
  pub kept : x.tombstone ≡ false
  pub whole : x.is_parent ≡ false
  pub dated : IsSome x.date
  -- its account is there and stands in the budget; it may be deleted or closed
  pub account : (id : Text) × (a : AccountRow) × (x.acct ≡ Some id) × (map.get rows.accounts id ≡ Some a) × (a.offbudget ≡ false)
  pub part : HasStandingParent rows x

-- a category that is live, and its group
pub record HasLiveGroup (rows : Rows) (id : Text) (income : Bool) : Type 0 where
  pub category : (c : CategoryRow) × (group : Text) × (g : GroupRow) × (map.get rows.categories id ≡ Some c) × (c.tombstone ≡ false) × (c.cat_group ≡ Some group) × (map.get rows.groups group ≡ Some g) × (g.tombstone ≡ false) × (g.is_income ≡ income)

-- a row of the id has this target
abbrev pub HasTarget : {Row : Type 0} → (Row → Option Text) → Texts Row → Text → Text → Type 0
HasTarget {Row} target rows id to = (row : Row) × (map.get rows id ≡ Some row) × (target row ≡ Some to)

-- the id stands for this one: for the target of its own row, or, where no row of its own has a target, for itself
abbrev pub StandsFor : {Row : Type 0} → (Row → Option Text) → Texts Row → Text → Text → Type 0
StandsFor target rows id to = HasTarget target rows id to ⊎ (((other : Text) → HasTarget target rows id other → ⊥) × (to ≡ id))

-- what a column with an id resolves to: what the id stands for, whatever that one stands for itself; no id resolves to none
pub record Resolves {Row : Type 0} (target : Row → Option Text) (rows : Texts Row) (column resolved : Option Text) : Type 0 where
  pub some : (to : Text) → (resolved ≡ Some to) ↔ ((id : Text) × (column ≡ Some id) × StandsFor target rows id to)
  pub none : (resolved ≡ None) ↔ (column ≡ None)

-- which rows are live, and which count
pub record LiveRowsAreTold : Type 0 where
  -- a transaction is live where it was not deleted, and what it is a part of, if anything, is there and was not deleted
  pub live : (rows : Rows) (x : TxRow) → (is_live_tx rows x ≡ true) ↔ ((x.tombstone ≡ false) × HasStandingParent rows x)
  -- which transactions count
  pub counted : (rows : Rows) (x : TxRow) → (is_counted rows x ≡ true) ↔ Counts rows x
  -- a live category takes income or is for expenses, as its group says
  pub income : (rows : Rows) (id : Text) → (is_income_category rows id ≡ true) ↔ HasLiveGroup rows id true
  pub expense : (rows : Rows) (id : Text) → (is_expense_category rows id ≡ true) ↔ HasLiveGroup rows id false
  pub category : (rows : Rows) (id : Text) → (is_live_category rows id ≡ true) ↔ ((is_income_category rows id ≡ true) ⊎ (is_expense_category rows id ≡ true))

-- what the category and the payee of a transaction resolve to
pub record MappingsAreTold : Type 0 where
  pub category : (rows : Rows) (x : TxRow) → Resolves (λ m. m.transfer_id) rows.category_mappings x.category (category_of rows x)
  pub payee : (rows : Rows) (x : TxRow) → Resolves (λ m. m.target_id) rows.payee_mappings x.description (payee_of rows x)

-- a row has this month: a transaction by its day, a budget row or a month row by its id
abbrev pub HasRowIn : Rows → ℕ → Type 0
HasRowIn rows month =
    ((id : Text) × (x : TxRow) × (map.get rows.txs id ≡ Some x) × (month_of_row x ≡ Some month))
    ⊎ (((id : Text) × (b : BudgetRow) × (map.get rows.budgets id ≡ Some b) × (budget_month id ≡ Some month))
    ⊎ ((id : Text) × (m : MonthRow) × (map.get rows.months id ≡ Some m) × (month_row_month id ≡ Some month)))

-- the window is from the first month that a row has to the last
abbrev pub WindowsSpan : Type 0
WindowsSpan = (rows : Rows) → Spans (HasRowIn rows) (window_of rows)
