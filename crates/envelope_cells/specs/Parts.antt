-- What a category has in a month, and how much there is to add up.
use Rattle.std.specs.Prelude.{◌≡◌, ℕ, zero, suc, ◌+◌, ◌≤◌, ◌^◌, Bool, ℤ, pos, ◌+ℤ◌, unsigned_abs, List, map, not, if◌then◌else◌}
use Rattle.std.specs.Prelude.{unwrap_or}
use Rattle.std.specs.FinMap as map
use Rattle.finite_sums.specs.Sums.{total, only_if, weight}
use Rattle.finite_sums.specs.Maps.{Text}
use Rattle.book_rows.specs.declared.rows.Rows.{Rows}
use Rattle.envelope_cells.specs.Budget.{Budget, categories}
use Rattle.envelope_cells.specs.Cells.{leftover, leftover_before, carried_before, taken_from}
use Rattle.envelope_cells.specs.Names.{Cells}
use Rattle.envelope_cells.specs.BudgetOf.{category_sum}
use Rattle.envelope_cells.specs.declared.groups.BudgetGroup.{BudgetGroup}
use Rattle.envelope_cells.specs.declared.name.CellName.{CellName}
use Rattle.envelope_cells.specs.declared.name.CellKind.TheVariants.{Sum as OfSum}
use Rattle.envelope_cells.specs.declared.part.Part.{Part}
use Rattle.envelope_cells.specs.declared.part.GroupParts.{GroupParts}
use Rattle.envelope_cells.specs.declared.part.Past.{Past}
use Rattle.envelope_cells.specs.declared.part.Month.{Month}
use Rattle.envelope_cells.specs.declared.part.Pick.{Pick}
use Rattle.envelope_cells.specs.declared.part.Pick.TheVariants.{Sum, Budget as OfBudget, Leftover, Before, Taken, Moved}

-- the name of the sum of a category in a month YYYYMM
abbrev pub sum_name : Text → ℕ → CellName
sum_name c month = record { month = month; kind = OfSum; id = c }

-- the value of a cell, or 0
abbrev pub value_at : Cells → CellName → ℤ
value_at cells name = unwrap_or (map.get cells name) (pos 0)

-- the sums of all categories in all months
pub record AreSums (sums : Cells) (rows : Rows) : Type 0 where
  pub each : (c : Text) (month : ℕ) → value_at sums (sum_name c month) ≡ category_sum rows c month

-- what the transactions of a category add up to in the months before month n
abbrev pub sums_before : Budget → Text → ℕ → ℤ
sums_before b c zero = pos 0
sums_before b c (suc m) = sums_before b c m +ℤ b.category_sum c m

-- how much is added up for a category in the months before month n, nothing being negative
abbrev pub weight_before : Budget → Text → ℕ → ℕ
weight_before b c zero = 0
weight_before b c (suc m) = weight_before b c m + (unsigned_abs (b.budgeted c m) + unsigned_abs (b.category_sum c m))

-- all that is added up in the months before month n stays far below 2 ^ 127
pub record IsSmall (b : Budget) (n : ℕ) : Type 0 where
  pub all : weight (λ c. weight_before b c n) (categories b) ≤ 2 ^ 118

-- what the months before month n left of a category
pub record IsPast (b : Budget) (c : Text) (n : ℕ) (p : Past) : Type 0 where
  pub left : p.left ≡ leftover_before b c n
  pub carries : p.carries ≡ carried_before b c n
  pub moved : p.moved ≡ sums_before b c n

-- what the rows say of a category in month m
pub record IsMonth (b : Budget) (c : Text) (m : ℕ) (p : Month) : Type 0 where
  pub sum : p.sum ≡ b.category_sum c m
  pub budget : p.budget ≡ b.budgeted c m
  pub carries : p.carries ≡ b.carries c m

-- what a category has in month m
abbrev pub part_of : Budget → ℕ → Text → Part
part_of b m c = record {
  id = c;
  sum = b.category_sum c m;
  budget = b.budgeted c m;
  carries = b.carries c m;
  leftover = leftover b c m;
  before = leftover_before b c m;
  taken = taken_from b c m;
  moved = sums_before b c m;
}

abbrev pub group_of : Budget → ℕ → BudgetGroup → GroupParts
group_of b m g = record { id = g.id; is_income = g.is_income; parts = map (part_of b m) g.categories }

-- one of the amounts that a category has
abbrev pub picked : Pick → Part → ℤ
picked Sum p = p.sum
picked OfBudget p = p.budget
picked Leftover p = p.leftover
picked Before p = p.before
picked Taken p = p.taken
picked Moved p = p.moved

-- how much there is to add up of it
abbrev pub part_weight : Pick → Part → ℕ
part_weight k p = unsigned_abs (picked k p)

-- one of the amounts, added up over the categories of a group
abbrev pub group_total : Pick → GroupParts → ℤ
group_total k g = total (picked k) g.parts

abbrev pub is_side : Bool → GroupParts → Bool
is_side income g = if income then g.is_income else not g.is_income

-- one of the amounts, added up over the groups that take income, or over those that don't
abbrev pub side_total : Pick → Bool → List GroupParts → ℤ
side_total k income gs = total (λ g. only_if (is_side income g) (group_total k g)) gs

-- the groups' amounts, nothing being negative
abbrev pub groups_weight : Pick → List GroupParts → ℕ
groups_weight k gs = weight (λ g. weight (part_weight k) g.parts) gs
