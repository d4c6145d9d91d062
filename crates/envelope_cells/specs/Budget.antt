-- What a book says of its months, as far as the sheets go. Months are numbered from 0, which is January 1970. Amounts are cents.
use Rattle.std.specs.Prelude.{ℕ, Bool, not, ℤ, List, [], ◌∷◌, ◌++◌, filter}
use Rattle.finite_sums.specs.Maps.{Text}
use Rattle.envelope_cells.specs.declared.groups.BudgetGroup.{BudgetGroup}

pub record Budget : Type 0 where
  -- the live groups, in the order of the sheet
  pub groups : List BudgetGroup
  -- what the transactions of a category in a month add up to
  pub category_sum : Text → ℕ → ℤ
  -- what a category is given in a month
  pub budgeted : Text → ℕ → ℤ
  -- whether what a category is overspent by stays in it after the month
  pub carries : Text → ℕ → Bool
  -- what is held back in a month for the next one
  pub buffered : ℕ → ℤ

-- the groups whose categories take income, and those of expenses
abbrev pub income_groups : Budget → List BudgetGroup
income_groups b = filter (λ g. g.is_income) b.groups

abbrev pub expense_groups : Budget → List BudgetGroup
expense_groups b = filter (λ g. not g.is_income) b.groups

-- the categories of some groups
abbrev pub categories_of : List BudgetGroup → List Text
categories_of [] = []
categories_of (g ∷ gs) = g.categories ++ categories_of gs

abbrev pub categories : Budget → List Text
categories b = categories_of b.groups

abbrev pub income : Budget → List Text
income b = categories_of (income_groups b)

abbrev pub expense : Budget → List Text
expense b = categories_of (expense_groups b)
