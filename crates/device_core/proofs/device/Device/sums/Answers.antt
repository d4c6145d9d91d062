use Rattle.std.proofs.Common.{◌≡◌, ◌∙◌, false, ap, subst}
use Rattle.envelope_cells.specs.Parts.{AreSums}
use Rattle.device_core.specs.Books.{rows_of}
use Rattle.device_core.specs.Device.{DeviceState}
use Rattle.device_core.proofs.device.Device.sums.Goals as goal

pub returns : goal.returns
returns c =
    let live : c.self.inside.spent ≡ false = ap (λ (d : DeviceState). d.spent) c.self.view_is ∙ c.requires in
    subst (λ (d : DeviceState). AreSums c.sums.result.now (rows_of d.state.messages)) c.self.view_is
    (c.sums.ensures (rows_of c.self.inside.known.log.messages) (c.self.invariant live).cells)
