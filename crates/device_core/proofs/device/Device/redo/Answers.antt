use Rattle.std.proofs.Common.{◌∙◌, List, Result, Ok, ap, sym, subst}
use Rattle.std.specs.Prelude.{IfOk, IfErr}
use Rattle.book_rows.specs.declared.fault.EditFault.{EditFault}
use Rattle.book_rows.specs.declared.write.Write.{Write}
use Rattle.edit_history.specs.declared.history.Turn.TheVariants.{Redo}
use Rattle.device_core.specs.Device.{writing, IsAccepted, IsRefused}
use Rattle.device_core.proofs.device.Device.redo.Goals as goal

pub returns-in-Ok-clause-ok : goal.returns-in-Ok-clause-ok
returns-in-Ok-clause-ok g c =
    subst (λ (r : Result (List Write) EditFault). IfOk c.write.result (IsAccepted (writing c.args.self.now.state Redo c.args.reading r) c.write.new.self))
    (sym (c.in-Ok.ensures.ok ∙ ap Ok (sym c.as_slice.ensures.value))) c.write.ensures.ok

pub returns-in-Ok-clause-refused : goal.returns-in-Ok-clause-refused
returns-in-Ok-clause-refused g c =
    subst (λ (r : Result (List Write) EditFault). IfErr c.write.result (IsRefused (writing c.args.self.now.state Redo c.args.reading r) c.args.self.now c.write.new.self))
    (sym (c.in-Ok.ensures.ok ∙ ap Ok (sym c.as_slice.ensures.value))) c.write.ensures.refused
