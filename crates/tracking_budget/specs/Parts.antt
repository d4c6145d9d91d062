-- What a category has in a month, and how much there is to add up.
use Rattle.std.specs.Prelude.{◌≡◌, ℕ, ◌+◌, Bool, true, false, not, ℤ, ◌+ℤ◌, ◌-ℤ◌, unsigned_abs, List, [], ◌∷◌, ◌++◌, if◌then◌else◌}
use Rattle.finite_sums.specs.Sums.{total, only_if}
use Rattle.finite_sums.specs.Maps.{Text}
use Rattle.envelope_cells.specs.Budget.{Budget}
use Rattle.envelope_cells.specs.CellOf.{flag_value}
use Rattle.envelope_cells.specs.Parts.{weight_before}
use Rattle.tracking_budget.specs.declared.live.LiveCategory.{LiveCategory}
use Rattle.tracking_budget.specs.declared.kept.Seen.{Seen}
use Rattle.tracking_budget.specs.declared.part.Part.{Part}
use Rattle.tracking_budget.specs.declared.part.Pick.{Pick}
use Rattle.tracking_budget.specs.declared.part.Pick.TheVariants.{Sum as OfSums, Given as OfGiven, Left as OfLeft}
use Rattle.tracking_budget.specs.declared.whole.Whole.{Whole}
use Rattle.tracking_budget.specs.declared.name.TrackCell.{TrackCell}
use Rattle.tracking_budget.specs.declared.name.TrackKind.TheVariants.{TotalIncome, TotalBudgetIncome, TotalBudgeted, TotalSpent, TotalLeftover, TotalSaved, RealSaved, Sum, Budget as OfBudget, Carryover, Leftover}
use Rattle.tracking_budget.specs.Tracked.{left}
use Rattle.tracking_budget.specs.SheetOf.{cell}

-- what the rows say of a category in month m
pub record IsSeen (b : Budget) (c : Text) (m : ℕ) (s : Seen) : Type 0 where
  pub sum : s.sum ≡ b.category_sum c m
  pub given : s.given ≡ b.budgeted c m
  pub carries : s.carries ≡ b.carries c m

-- what a category has in month m
abbrev pub part_of : Budget → ℕ → LiveCategory → Part
part_of b m l = record {
  id = l.id;
  is_income = l.is_income;
  sum = b.category_sum l.id m;
  given = b.budgeted l.id m;
  carries = b.carries l.id m;
  left = left b l.is_income l.id m;
}

-- how much is added up for a category up to month m
abbrev pub weight_of : Budget → ℕ → LiveCategory → ℕ
weight_of b m l = weight_before b l.id (m + 1)

-- one of the amounts that a category has
abbrev pub picked : Pick → Part → ℤ
picked OfSums p = p.sum
picked OfGiven p = p.given
picked OfLeft p = p.left

-- how much there is to add up of it
abbrev pub size_of : Pick → Part → ℕ
size_of k p = unsigned_abs (picked k p)

-- one of the amounts, where the category takes income, or, on the other side, doesn't
abbrev pub side_part : Pick → Bool → Part → ℤ
side_part k income p = only_if (if income then p.is_income else not p.is_income) (picked k p)

abbrev pub side_total : Pick → Bool → List Part → ℤ
side_total k income ps = total (side_part k income) ps

-- the amounts of the whole month
abbrev pub whole_of : List Part → Whole
whole_of ps = record {
  income = side_total OfSums true ps;
  planned = side_total OfGiven true ps;
  given = side_total OfGiven false ps;
  spent = side_total OfSums false ps;
  left = side_total OfLeft false ps;
  to_save = side_total OfGiven true ps -ℤ side_total OfGiven false ps;
  saved = side_total OfSums true ps +ℤ side_total OfSums false ps;
}

-- their cells, under an id
abbrev pub first_cells : ℕ → Text → Whole → List TrackCell
first_cells month id w =
    cell month TotalIncome id w.income ∷ cell month TotalBudgetIncome id w.planned ∷ cell month TotalBudgeted id w.given ∷ cell month TotalSpent id w.spent ∷ []

abbrev pub last_cells : ℕ → Text → Whole → List TrackCell
last_cells month id w = cell month TotalLeftover id w.left ∷ cell month TotalSaved id w.to_save ∷ cell month RealSaved id w.saved ∷ []

-- the cells of categories
abbrev pub part_cells : ℕ → Part → List TrackCell
part_cells month p =
    cell month Sum p.id p.sum ∷ cell month OfBudget p.id p.given ∷ cell month Carryover p.id (flag_value p.carries) ∷ cell month Leftover p.id p.left ∷ []

abbrev pub parts_cells : ℕ → List Part → List TrackCell
parts_cells month [] = []
parts_cells month (p ∷ ps) = part_cells month p ++ parts_cells month ps

-- the cells of the whole month, and then those of all categories
abbrev pub cells_from : ℕ → Whole → List Part → List TrackCell
cells_from month w ps = first_cells month [] w ++ last_cells month [] w ++ parts_cells month ps
