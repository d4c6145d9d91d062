use Rattle.std.proofs.Common.{◌≡◌, ◌∙◌, false, ap}
use Rattle.envelope_cells.specs.BudgetOf.{budget_of}
use Rattle.envelope_cells.specs.CellOf.{cell_of}
use Rattle.device_core.specs.Books.{rows_of}
use Rattle.device_core.specs.Device.{DeviceState}
use Rattle.device_core.proofs.device.Device.cell.Goals as goal

pub returns : goal.returns
returns c =
    let live : c.self.inside.spent ≡ false = ap (λ (d : DeviceState). d.spent) c.self.view_is ∙ c.requires.live in
    let stands = c.self.invariant live in
    c.cell.ensures.cell (rows_of c.self.inside.known.log.messages) stands.cells ∙ ap (λ (d : DeviceState). cell_of (budget_of (rows_of d.state.messages)) c.args.name.now) c.self.view_is
