-- Edits of what categories are given in a month, and of what is held back.
use Rattle.std.specs.Prelude.{ℕ, ℤ, pos, ◌+ℤ◌, ◌-ℤ◌, Bool, List, [], ◌∷◌, ◌++◌, is_some, Result, Ok, codes, if◌then◌else◌}
use Rattle.std.specs.FinMap as map
use Rattle.field_values.specs.declared.value.Value.{Value}
use Rattle.field_values.specs.declared.value.Value.TheVariants.{Number, Text as IsText}
use Rattle.finite_sums.specs.Maps.{Text, value_or_zero}
use Rattle.book_rows.specs.declared.rows.Rows.{Rows}
use Rattle.book_rows.specs.declared.write.RowName.TheVariants.{Given}
use Rattle.book_rows.specs.declared.write.Write.{Write}
use Rattle.book_rows.specs.declared.fault.EditFault.{EditFault}
use Rattle.book_rows.specs.Ids.{budget_id, month_id}
use Rattle.book_edits.specs.Faults.{◌>>=◌, Check}
use Rattle.book_edits.specs.Checks.{live_category, no_income, two_ids, a_month, an_amount, a_held, a_name}
use Rattle.book_edits.specs.Writing.{write, flag}

-- the amount of a budget row, 0 where it is not there
abbrev pub amount_at : Rows → Text → ℤ
amount_at rows id = value_or_zero (λ b. b.amount) (map.get rows.budgets id)

-- what a category is given in a month. The id of the row alone says of what it speaks
abbrev pub budgeted : Rows → Text → ℕ → ℤ
budgeted rows category month = amount_at rows (budget_id category month)

-- a row of what a category is given in a month is made, unless it is there: what it is of stands in two of its columns, for readers of the data; here its id alone tells
abbrev pub made_unless : Bool → Text → Text → ℕ → List Write
made_unless there dataset category month =
    if there then []
    else write dataset (Given (budget_id category month)) (codes "month") (Number (pos month))
    ∷ write dataset (Given (budget_id category month)) (codes "category") (IsText category)
    ∷ []

-- the writes of a column of such a row, which is made unless it is there
abbrev pub column_writes : Bool → Text → Text → ℕ → Text → Value → List Write
column_writes there dataset category month column value =
    made_unless there dataset category month ++ write dataset (Given (budget_id category month)) column value ∷ []

abbrev pub row_made : Rows → Text → ℕ → List Write
row_made rows category month = made_unless (is_some (map.get rows.budgets (budget_id category month))) (codes "zero_budgets") category month

abbrev pub budget_writes : Rows → Text → ℕ → Text → Value → List Write
budget_writes rows category month column value = column_writes (is_some (map.get rows.budgets (budget_id category month))) (codes "zero_budgets") category month column value

-- the same of the tracking budget
abbrev pub track_writes : Rows → Text → ℕ → Text → Value → List Write
track_writes rows category month column value = column_writes (is_some (map.get rows.tracked (budget_id category month))) (codes "reflect_budgets") category month column value

abbrev pub budget : Rows → ℕ → Text → ℤ → Result (List Write) EditFault
budget rows month category amount = do
  _ ← a_month month
  _ ← live_category rows category
  _ ← no_income rows category
  _ ← an_amount amount
  _ ← a_name (budget_id category month)
  Ok (budget_writes rows category month (codes "amount") (Number amount))

abbrev pub carryover : Rows → ℕ → Text → Bool → Result (List Write) EditFault
carryover rows month category carries = do
  _ ← a_month month
  _ ← live_category rows category
  _ ← no_income rows category
  _ ← a_name (budget_id category month)
  Ok (budget_writes rows category month (codes "carryover") (flag carries))

abbrev pub hold : ℕ → ℤ → Result (List Write) EditFault
hold month amount = do
  _ ← a_month month
  _ ← a_held amount
  Ok (write (codes "zero_budget_months") (Given (month_id month)) (codes "buffered") (Number amount) ∷ [])

-- two categories are given these amounts
abbrev pub two_amounts : Rows → ℕ → Text → ℤ → Text → ℤ → List Write
two_amounts rows month from less to more =
    budget_writes rows from month (codes "amount") (Number less) ++ budget_writes rows to month (codes "amount") (Number more)

-- an amount can be moved between two expense categories
abbrev pub may_move : Rows → ℕ → Text → Text → ℤ → Check
may_move rows month from to amount = do
  _ ← a_month month
  _ ← live_category rows from
  _ ← live_category rows to
  _ ← no_income rows from
  _ ← no_income rows to
  _ ← two_ids from to
  an_amount amount

abbrev pub move : Rows → ℕ → Text → Text → ℤ → Result (List Write) EditFault
move rows month from to amount = do
  _ ← may_move rows month from to amount
  _ ← an_amount (budgeted rows from month -ℤ amount)
  _ ← an_amount (budgeted rows to month +ℤ amount)
  _ ← a_name (budget_id from month)
  _ ← a_name (budget_id to month)
  Ok (two_amounts rows month from (budgeted rows from month -ℤ amount) to (budgeted rows to month +ℤ amount))

-- ---- the tracking budget, which gives categories that take income their amounts too

abbrev pub track : Rows → ℕ → Text → ℤ → Result (List Write) EditFault
track rows month category amount = do
  _ ← a_month month
  _ ← live_category rows category
  _ ← an_amount amount
  _ ← a_name (budget_id category month)
  Ok (track_writes rows category month (codes "amount") (Number amount))

abbrev pub track_carryover : Rows → ℕ → Text → Bool → Result (List Write) EditFault
track_carryover rows month category carries = do
  _ ← a_month month
  _ ← live_category rows category
  _ ← a_name (budget_id category month)
  Ok (track_writes rows category month (codes "carryover") (flag carries))
