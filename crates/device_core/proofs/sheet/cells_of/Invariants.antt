use Rattle.std.proofs.Common.{◌≡◌, ◌++◌, true, drop}
use Rattle.std.specs.Prelude.{flat_map}
use Rattle.std.specs.List.{AllByRecursion}
use Rattle.book_rows.specs.declared.rows.Rows.{Rows}
use Rattle.envelope_cells.specs.BudgetOf.{budget_of}
use Rattle.dirty_cells.specs.Stands.{StandsFor, is_covered}
use Rattle.device_core.specs.Sheets.{told_of}
use Rattle.device_core.proofs.sheet.cells_of.Given as goal

abbrev pub invariant-loop-name : goal.invariant-loop-name
invariant-loop-name l = record {
  rest : (rows : Rows) → StandsFor l.grid rows → l.cells.items ++ flat_map (told_of (budget_of rows)) (drop l.name-index l.names) ≡ flat_map (told_of (budget_of rows)) l.names;
  covered : AllByRecursion (λ name. is_covered l.grid name.month ≡ true) (drop l.name-index l.names);
}
