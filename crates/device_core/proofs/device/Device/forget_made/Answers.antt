use Rattle.std.proofs.Common.{◌≡◌, ◌∙◌, false, ap, sym, subst}
use Rattle.book_rows.specs.Months.{window_of}
use Rattle.device_core.specs.Books.{rows_of}
use Rattle.device_core.specs.Covering.{covered_by}
use Rattle.device_core.specs.Device.{DeviceState}
use Rattle.device_core.proofs.Covering.{window_there}
use Rattle.device_core.proofs.device.Device.forget_made.Goals as goal

pub returns-clause-covered : goal.returns-clause-covered
returns-clause-covered c = λ live.
    let here : c.self.inside.spent ≡ false = ap (λ (d : DeviceState). d.spent) c.self.view_is ∙ live in
    let there = window_there c.self.inside.grid.first c.self.inside.grid.end (window_of (rows_of c.self.inside.known.log.messages)) (c.self.invariant here).cells.window in
    subst (λ (d : DeviceState). d.covered ≡ covered_by d.covered d.state.messages) c.self.view_is (sym there)
