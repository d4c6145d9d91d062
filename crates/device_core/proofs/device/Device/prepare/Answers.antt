use Rattle.std.proofs.Common.{◌∙◌, List, Result, Ok, ap, sym, subst}
use Rattle.std.specs.Prelude.{IfOk, IfErr}
use Rattle.book_rows.specs.declared.fault.EditFault.{EditFault}
use Rattle.book_rows.specs.declared.write.Write.{Write}
use Rattle.device_core.specs.Books.{rows_of}
use Rattle.device_core.proofs.Making.{made_may}
use Rattle.edit_history.specs.declared.history.Turn.TheVariants.{New}
use Rattle.device_core.specs.Device.{writing, IsAccepted, IsRefused}
use Rattle.device_core.proofs.device.Device.prepare.Goals as goal

pub returns-in-Ok-clause-ok : goal.returns-in-Ok-clause-ok
returns-in-Ok-clause-ok g c =
    subst (λ (r : Result (List Write) EditFault). IfOk c.write.result (IsAccepted (writing c.args.self.now.state New c.args.reading r) c.write.new.self))
    (sym (c.in-Ok.ensures.ok ∙ ap Ok (sym c.as_slice.ensures.value))) c.write.ensures.ok

pub returns-in-Ok-clause-refused : goal.returns-in-Ok-clause-refused
returns-in-Ok-clause-refused g c =
    subst (λ (r : Result (List Write) EditFault). IfErr c.write.result (IsRefused (writing c.args.self.now.state New c.args.reading r) c.args.self.now c.write.new.self))
    (sym (c.in-Ok.ensures.ok ∙ ap Ok (sym c.as_slice.ensures.value))) c.write.ensures.refused

pub returns-in-Ok-clause-empty : goal.returns-in-Ok-clause-empty
returns-in-Ok-clause-empty g c = λ e. made_may (rows_of c.args.self.now.state.messages) c.args.edit.now c.in-Ok.writes.items c.in-Ok.ensures.ok
