-- What the rows of a book say of its months.
use Rattle.std.specs.Prelude.{ℕ, ◌==◌, Bool, ◌&&◌, ℤ, List, []}
use Rattle.std.specs.FinMap as map
use Rattle.finite_sums.specs.Sums.{only_if}
use Rattle.finite_sums.specs.Maps.{Text, total_of, value_or_zero, some_and}
use Rattle.book_rows.specs.declared.rows.Rows.{Rows}
use Rattle.book_rows.specs.declared.rows.TxRow.{TxRow}
use Rattle.book_rows.specs.Live.{is_counted, category_of}
use Rattle.book_rows.specs.Parts.{is_text}
use Rattle.book_rows.specs.Months.{month_of_row}
use Rattle.envelope_cells.specs.Budget.{Budget}
use Rattle.envelope_cells.specs.declared.groups.BudgetGroup.{BudgetGroup}
use Rattle.book_rows.specs.Ids.{budget_id, month_id}
use Rattle.envelope_cells.specs.Ids.{month_at}
use Rattle.envelope_cells.specs.Places.{placed, group_places, category_places, with_categories}

-- the transaction is of the category and its day is in the month YYYYMM
abbrev pub is_of : Rows → Text → ℕ → TxRow → Bool
is_of rows c month x = is_text c (category_of rows x) && some_and (λ m. m == month) (month_of_row x)

-- what a transaction adds to the sum of a category in a month
abbrev pub share : Rows → Text → ℕ → TxRow → ℤ
share rows c month x = only_if (is_counted rows x && is_of rows c month x) x.amount

-- the sum of a category in a month YYYYMM: of the amounts of all transactions that count, are of the category and have a day in the month
abbrev pub category_sum : Rows → Text → ℕ → ℤ
category_sum rows c month = total_of (share rows c month) rows.txs

-- what a category is given in a month YYYYMM, whether it carries over, and what is held back. Only the id of a row says of what it speaks
abbrev pub budgeted : Rows → Text → ℕ → ℤ
budgeted rows c month = value_or_zero (λ b. b.amount) (map.get rows.budgets (budget_id c month))

abbrev pub carries : Rows → Text → ℕ → Bool
carries rows c month = some_and (λ b. b.carryover) (map.get rows.budgets (budget_id c month))

abbrev pub buffered : Rows → ℕ → ℤ
buffered rows month = value_or_zero (λ m. m.buffered) (map.get rows.months (month_id month))

-- the live groups in their order, each with its live categories in theirs
abbrev pub groups_of : Rows → List BudgetGroup
groups_of rows = with_categories (placed (category_places (map.entries rows.categories)) []) (placed (group_places (map.entries rows.groups)) [])

-- the budget of a book. Which rows are live is read from the rows as they are now, for every month
abbrev pub budget_of : Rows → Budget
budget_of rows = record {
  groups = groups_of rows;
  category_sum = λ c m. category_sum rows c (month_at m);
  budgeted = λ c m. budgeted rows c (month_at m);
  carries = λ c m. carries rows c (month_at m);
  buffered = λ m. buffered rows (month_at m);
}
