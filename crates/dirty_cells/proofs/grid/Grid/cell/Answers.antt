use Rattle.std.proofs.Common.{Bool, None, ap, ◌∙◌, if◌then◌else◌}
use Rattle.envelope_cells.specs.BudgetOf.{budget_of}
use Rattle.envelope_cells.specs.CellOf.{cell_of}
use Rattle.dirty_cells.proofs.Covered.{keeps_money}
use Rattle.dirty_cells.proofs.grid.Grid.cell.Goals as goal

pub returns-clause-cell : goal.returns-clause-cell
returns-clause-cell c = λ rows stands. c.get.ensures ∙ stands.cells c.args.name.now ∙ ap (λ (t : Bool). if t then cell_of (budget_of rows) c.args.name.now else None) c.requires

pub returns-clause-money : goal.returns-clause-money
returns-clause-money c = λ rows stands. keeps_money c.args.self.now rows c.args.name.now.month c.requires stands
