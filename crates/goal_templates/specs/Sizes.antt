-- How much is given at most.
use Rattle.std.specs.Prelude.{◌≡◌, ℕ, ◌+◌, ◌<◌, ◌≤◌, ◌^◌, true, false, ℤ, pos, ◌≤ℤ◌, List, if◌then◌else◌}
use Rattle.std.specs.List.{AllByRecursion}
use Rattle.finite_sums.specs.Sums.{weight}
use Rattle.finite_sums.specs.Maps.{Text, text_cmp, is_among}
use Rattle.book_rows.specs.declared.rows.Rows.{Rows}
use Rattle.book_rows.specs.Book.{HasSizes}
use Rattle.envelope_cells.specs.Budget.{Budget, expense}
use Rattle.envelope_cells.specs.BudgetOf.{budget_of}
use Rattle.envelope_cells.specs.Names.{Cells}
use Rattle.envelope_cells.specs.Parts.{AreSums, IsPast, weight_before}
use Rattle.goal_templates.specs.declared.share.Share.{Share}
use Rattle.goal_templates.specs.declared.share.Asked.{Asked}
use Rattle.goal_templates.specs.Grammar.{IsInRange}
use Rattle.goal_templates.specs.Sharing.{is_of, got}

-- what is at hand of a month: the sums of the book, a month before which there is nothing, and how great all numbers are
pub record IsAtHand (rows : Rows) (sums : Cells) (first m : ℕ) : Type 0 where
  pub within : first ≤ m
  pub valid : m < 2760
  pub added : AreSums sums rows
  pub quiet : (c : Text) → IsPast (budget_of rows) c first (record { left = pos 0; carries = false; moved = pos 0 })
  pub sizes : HasSizes rows

-- a template in range, of an expense category
pub record IsAsked (b : Budget) (x : Asked) : Type 0 where
  pub range : IsInRange x.template
  pub among : is_among text_cmp (expense b) x.category ≡ true

abbrev pub AreAsked : Budget → List Asked → Type 0
AreAsked b xs = AllByRecursion (IsAsked b) xs

-- what a category can get by so many templates: what it may have lost before, and less than 2 ^ 54 for each
abbrev pub size_for : Text → Share → ℕ
size_for c s = if is_of c s then 2 ^ 54 else 0

abbrev pub most_for : Budget → ℕ → List Share → Text → ℕ
most_for b m ss c = weight_before b c m + weight (size_for c) ss

-- no share is less than nothing, no category got more than it can get, and all are of expense categories
pub record AreWithin (b : Budget) (m : ℕ) (ss : List Share) : Type 0 where
  pub some : AllByRecursion (λ s. pos 0 ≤ℤ s.given) ss
  pub most : (c : Text) → got c ss ≤ℤ pos (most_for b m ss c)
  pub among : AllByRecursion (λ s. is_among text_cmp (expense b) s.category ≡ true) ss
