-- What there is to share out, from what each category has.
use Rattle.std.specs.Prelude.{ℕ, not, ℤ, ◌+ℤ◌, ◌-ℤ◌, List}
use Rattle.finite_sums.specs.Sums.{total, only_if}
use Rattle.finite_sums.specs.Maps.{Text}
use Rattle.envelope_cells.specs.Budget.{Budget, income, expense}
use Rattle.envelope_cells.specs.Parts.{sums_before}
use Rattle.goal_templates.specs.declared.share.Asked.{Asked}
use Rattle.goal_templates.specs.Wanted.{carry}
use Rattle.goal_templates.specs.Allocation.{has_template}

-- what came in by a category in all months up to month m
abbrev pub came_in : Budget → ℕ → Text → ℤ
came_in b m c = sums_before b c m +ℤ b.category_sum c m

-- what an expense category takes of it: what went out of it before month m, less what is left in it and what it is given without a template
abbrev pub left_out : Budget → ℕ → List Asked → Text → ℤ
left_out b m xs c = (sums_before b c m -ℤ carry b m c) -ℤ only_if (not (has_template xs c)) (b.budgeted c m)

abbrev pub money_from : Budget → ℕ → List Asked → ℤ
money_from b m xs = (total (came_in b m) (income b) +ℤ total (left_out b m xs) (expense b)) -ℤ b.buffered m
