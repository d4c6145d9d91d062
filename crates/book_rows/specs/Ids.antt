-- The ids of the rows that speak of a month.
use Rattle.std.specs.Prelude.{ℕ, ◌+◌, ◌/◌, ◌%◌, [], ◌∷◌, ◌++◌}
use Rattle.finite_sums.specs.Maps.{Text}

-- the two, or the four, last digits of a number
abbrev pub two_digits : ℕ → Text
two_digits n = (48 + n / 10 % 10) ∷ (48 + n % 10) ∷ []

abbrev pub four_digits : ℕ → Text
four_digits n = two_digits (n / 100) ++ two_digits n

-- the id of the row of what a category is given in a month: YYYYMM, `-`, the category
abbrev pub budget_id : Text → ℕ → Text
budget_id category month = (four_digits (month / 100) ++ two_digits month) ++ 45 ∷ category

-- the id of the row of what is held back in a month: YYYY, `-`, MM
abbrev pub month_id : ℕ → Text
month_id month = four_digits (month / 100) ++ 45 ∷ two_digits month
