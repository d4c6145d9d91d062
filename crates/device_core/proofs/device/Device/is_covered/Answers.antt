use Rattle.std.proofs.Common.{◌≡◌, ◌∙◌, false, ap, subst}
use Rattle.book_rows.specs.Months.{window_of}
use Rattle.dirty_cells.specs.Stands.{HasWindow}
use Rattle.device_core.specs.Books.{rows_of}
use Rattle.device_core.specs.Device.{DeviceState}
use Rattle.device_core.proofs.device.Device.is_covered.Goals as goal

pub returns-clause-window : goal.returns-clause-window
returns-clause-window c =
    let live : c.self.inside.spent ≡ false = ap (λ (d : DeviceState). d.spent) c.self.view_is ∙ c.requires in
    subst (λ (d : DeviceState). HasWindow d.covered.0 d.covered.1 (window_of (rows_of d.state.messages))) c.self.view_is (c.self.invariant live).cells.window
