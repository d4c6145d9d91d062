-- What is left where a category is deleted, and all that it has goes to another one.
use Rattle.std.specs.Prelude.{◌≡◌, ◌≢◌, ◌↔◌, ◌==◌, ℕ, pos, ◌+ℤ◌, true, false, List, map as list_map, None, Some, Ok}
use Rattle.std.specs.List.{AllByRecursion, list_any}
use Rattle.std.specs.List.Sorted.{IsStrictlySortedBy}
use Rattle.std.specs.Ordering.{nat_cmp}
use Rattle.std.specs.FinMap as map
use Rattle.finite_sums.specs.Maps.{Text}
use Rattle.book_rows.specs.declared.rows.Rows.{Rows}
use Rattle.book_rows.specs.declared.rows.TxRow.{TxRow}
use Rattle.book_rows.specs.declared.write.Write.{Write}
use Rattle.book_rows.specs.Ids.{budget_id}
use Rattle.book_rows.specs.Live.{is_live_category, is_income_category, mapped_category, category_of}
use Rattle.book_rows.specs.Months.{is_month}
use Rattle.book_rows.specs.Rules.{category_table}
use Rattle.book_edits.specs.declared.gains.Gain.{Gain}
use Rattle.book_edits.specs.Mappings.{gains, category_delete_to}
use Rattle.split_transfer.specs.After.{Ids, with_writes}
use Rattle.envelope_cells.specs.BudgetOf.{category_sum, budgeted, carries, buffered, budget_of}
use Rattle.envelope_cells.specs.declared.name.CellName.{CellName}
use Rattle.envelope_cells.specs.CellOf.{cell_of, is_of_category}
use Rattle.envelope_cells.specs.Cells.{total_income, total_budgeted, total_spent, total_leftover, to_budget}
use Rattle.envelope_cells.specs.Ids.{month_at}
use Rattle.book_laws.specs.Leaving.{changed, budget_row}

-- of which category transactions are
pub record TransactionsAreHandedOn (before after : Rows) (id to : Text) : Type 0 where
  -- each that was of the category is of the other one, and so is each that has its id in its column
  pub handed : (x : TxRow) → category_of before x ≡ Some id → category_of after x ≡ Some to
  pub named : (x : TxRow) → x.category ≡ Some id → category_of after x ≡ Some to
  -- each other one is of what it was of
  pub others : (x : TxRow) → category_of before x ≢ Some id → x.category ≢ Some id → category_of after x ≡ category_of before x

-- what the transactions of categories add up to in a month YYYYMM
pub record SumsAreHandedOn (before after : Rows) (id to : Text) (month : ℕ) : Type 0 where
  -- those of the other one to what both had together, and those of the deleted one to nothing
  pub both : category_sum after to month ≡ category_sum before to month +ℤ category_sum before id month
  pub none : category_sum after id month ≡ pos 0
  -- those of each other category to what they did
  pub others : (c : Text) → c ≢ id → c ≢ to → category_sum after c month ≡ category_sum before c month

-- what a category leaves to another one, where it is deleted
pub record GainsAreTold (rows : Rows) (id to : Text) : Type 0 where
  -- each month stands once, in order
  pub rise : IsStrictlySortedBy nat_cmp (list_map (λ (g : Gain). g.month) (gains rows id to))
  -- these are the months of the calendar in which it is given more or less than nothing, if it takes no income
  pub months : (month : ℕ) → (list_any (λ (g : Gain). month == g.month) (gains rows id to) ≡ true) ↔ ((is_income_category rows id ≡ false) × (is_month month ≡ true) × (budgeted rows id month ≢ pos 0))
  -- and in each the other one is given then what both were
  pub amounts : AllByRecursion (λ (g : Gain). g.amount ≡ budgeted rows to g.month +ℤ budgeted rows id g.month) (gains rows id to)

-- what categories are given
pub record BudgetsAreHandedOn (before after : Rows) (id to : Text) : Type 0 where
  -- an expense category leaves what it is given in each month to the other one, which is then given what both were together
  pub both : is_income_category before id ≡ false → (month : ℕ) → is_month month ≡ true → budgeted after to month ≡ budgeted before to month +ℤ budgeted before id month
  -- the row of such a month says nothing else than before
  pub row : is_income_category before id ≡ false → (month : ℕ) → is_month month ≡ true → budgeted before id month ≢ pos 0
      → map.get after.budgets (budget_id to month) ≡ Some (record (budget_row before to month) { amount = budgeted before to month +ℤ budgeted before id month })
  -- one that takes income leaves nothing
  pub nothing : is_income_category before id ≡ true → after.budgets ≡ before.budgets
  -- no row changes but that of a month in which the deleted one is given something, so each other category, the deleted one too, is given
  -- what it was
  pub others : (q : Text) → ((month : ℕ) → is_month month ≡ true → budgeted before id month ≢ pos 0 → q ≢ budget_id to month) → map.get after.budgets q ≡ map.get before.budgets q
  pub given : (c : Text) (month : ℕ) → c ≢ to → budgeted after c month ≡ budgeted before c month
  -- what carries over does so as before, and what is held back stays
  pub carried : (c : Text) (month : ℕ) → carries after c month ≡ carries before c month
  pub held : (month : ℕ) → buffered after month ≡ buffered before month

-- what all live categories have together in the month of number m
pub record WholeMonthStays (before after : Rows) (m : ℕ) : Type 0 where
  -- as much came in, went out and was given as before
  pub income : total_income (budget_of after) m ≡ total_income (budget_of before) m
  pub spent : total_spent (budget_of after) m ≡ total_spent (budget_of before) m
  pub given : is_month (month_at m) ≡ true → total_budgeted (budget_of after) m ≡ total_budgeted (budget_of before) m
  -- and what is still to budget and what is left in all of them are together what they were
  pub money : to_budget (budget_of after) m +ℤ total_leftover (budget_of after) m ≡ to_budget (budget_of before) m +ℤ total_leftover (budget_of before) m

-- the cells of categories, in every month
pub record CellsAreHandedOn (before after : Rows) (id to : Text) : Type 0 where
  -- the deleted one has none any more
  pub none : (name : CellName) → is_of_category name.kind ≡ true → name.id ≡ id → cell_of (budget_of after) name ≡ None
  -- each one but the other has those that it had, so what is left in it stays too
  pub others : (name : CellName) → is_of_category name.kind ≡ true → name.id ≢ id → name.id ≢ to → cell_of (budget_of after) name ≡ cell_of (budget_of before) name

pub record IsHandedOn (before after : Rows) (id to : Text) : Type 0 where
  pub transactions : TransactionsAreHandedOn before after id to
  -- in each month, where the category stood for itself, as one does that was never handed on
  pub sums : mapped_category before id ≡ id → (month : ℕ) → SumsAreHandedOn before after id to month
  pub months : mapped_category before id ≡ id → (m : ℕ) → WholeMonthStays before after m
  pub cells : mapped_category before id ≡ id → CellsAreHandedOn before after id to
  pub budgets : BudgetsAreHandedOn before after id to
  -- the category isn't live any more, and each other one is where it was live
  pub gone : is_live_category after id ≡ false
  pub live : (c : Text) → c ≢ id → is_live_category after c ≡ is_live_category before c
  -- no row changes but those of mappings, of what the other category is given, and of the deleted one, which has a mark more
  pub elsewhere : after ≡ record before {
    category_mappings = after.category_mappings;
    budgets = after.budgets;
    categories = changed category_table before.categories id (λ c. record c { tombstone = true });
  }

-- where the deletion of a category is accepted that hands it on to another one
abbrev pub CategoriesAreHandedOn : Type 0
CategoriesAreHandedOn = (ids : Ids) (rows : Rows) (id to : Text) (ws : List Write) → category_delete_to rows id to ≡ Ok ws → IsHandedOn rows (with_writes ids rows ws) id to
