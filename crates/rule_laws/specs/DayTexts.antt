-- Which texts write a day.
use Rattle.std.specs.Prelude.{◌≡◌, ◌↔◌, ℕ, ◌+◌, ◌/◌, ◌%◌, [], ◌∷◌, Some}
use Rattle.finite_sums.specs.Maps.{Text}
use Rattle.book_laws.specs.Books.{WritesDay}
use Rattle.rule_engine.specs.Days.{day_of_text}
use Rattle.schedules.specs.Months.{day_in}
use Rattle.schedules.specs.Reading.{day_of_text as scheduled_day}

-- the last digit of a number, as a character
abbrev pub digit : ℕ → ℕ
digit n = 48 + n % 10

-- a date as YYYY-MM-DD
abbrev pub date_text : ℕ → ℕ → ℕ → Text
date_text year month place =
    digit (year / 1000) ∷ digit (year / 100) ∷ digit (year / 10) ∷ digit year ∷ 45 ∷ digit (month / 10) ∷ digit month ∷ 45
    ∷ digit (place / 10) ∷ digit place ∷ []

-- a text is a day exactly where it writes a civil date from 1970 to 2199, and then it is the number YYYYMMDD of that date
pub record DaysAreWritten : Type 0 where
  pub day : (t : Text) (n : ℕ) → (day_of_text t ≡ Some n) ↔ ((w : WritesDay n) × (t ≡ date_text w.year w.month w.place))
  -- for schedules it is the day of that number, counted from 1970
  pub scheduled : (t : Text) (d : ℕ) → (scheduled_day t ≡ Some d) ↔ ((n : ℕ) × (day_of_text t ≡ Some n) × (day_in n ≡ Some d))
