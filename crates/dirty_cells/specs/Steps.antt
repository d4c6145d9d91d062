-- What computing a month anew costs.
use Rattle.std.specs.Prelude.{ℕ, ◌+◌, ◌*◌}

-- a month costs this many cells: four of each category, three of each group, and nine of its own
abbrev pub month_cost : ℕ → ℕ → ℕ
month_cost categories groups = 4 * categories + 3 * groups + 9
