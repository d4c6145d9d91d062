-- The cells of names.
use Rattle.std.specs.Prelude.{ℤ, List, [], ◌∷◌, Option, None, Some}
use Rattle.envelope_cells.specs.Budget.{Budget}
use Rattle.envelope_cells.specs.CellOf.{cell_of}
use Rattle.envelope_cells.specs.declared.name.Cell.{Cell}
use Rattle.envelope_cells.specs.declared.name.CellName.{CellName}

-- a cell of this name, if it tells something
abbrev pub told : CellName → Option ℤ → List Cell
told name None = []
told name (Some z) = record { name = name; value = z } ∷ []

-- the cell of a name, if there is such a cell
abbrev pub told_of : Budget → CellName → List Cell
told_of b name = told name (cell_of b name)
