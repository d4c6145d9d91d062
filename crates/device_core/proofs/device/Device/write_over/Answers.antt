use Rattle.std.proofs.Common.{◌≡◌, false, ap, sym, subst, ◌∙◌}
use Rattle.field_merge.specs.Log.{value_in}
use Rattle.book_rows.specs.declared.rows.Rows.{Rows}
use Rattle.book_rows.specs.Rows.{AreRowsOf}
use Rattle.device_core.specs.Device.{DeviceState}
use Rattle.device_core.proofs.Books.{rows_latest}
use Rattle.device_core.proofs.device.Device.write_over.Goals as goal

pub entry_over-requires-clause-rows : goal.entry_over-requires-clause-rows
entry_over-requires-clause-rows c =
    let live : c.self.inside.spent ≡ false = ap (λ (d : DeviceState). d.spent) c.self.view_is ∙ c.requires.live in
    let right = (c.self.invariant live).right in
    subst (λ (rows : Rows). AreRowsOf (value_in c.self.inside.known.log.messages) rows) (sym right.book_right) (rows_latest c.self.inside.known.log.messages)
