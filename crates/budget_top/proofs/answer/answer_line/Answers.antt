use Rattle.std.proofs.Common.{◌≡◌, Err, ap, sym, ◌∙◌}
use Rattle.std.proofs.lemmas.Result.{err_from_is_err_and}
use Rattle.budget_ports.specs.declared.keeper.PortFault.TheVariants.{Failed}
use Rattle.device_core.specs.Device.{State}
use Rattle.command_lines.specs.declared.reply.Reply.{Reply}
use Rattle.budget_top.proofs.Keeping.{brings_new, carries_along, either_along, either_old}
use Rattle.budget_top.proofs.Obeying.{whether_err}
use Rattle.budget_top.proofs.answer.answer_line.Goals as goal

pub returns-in_err-keep-clause-new : goal.returns-in_err-keep-clause-new
returns-in_err-keep-clause-new g c =
    let p = err_from_is_err_and c.from_residual-in_err-keep.result c.from_residual-in_err-keep.ensures.1 in
    rw p.1 (λ failed same.
    let is : p.0 ≡ Failed = cc in
    brings_new c.new_ones_are_added.ensures _ c.reply_to.new.device c.in_ok-reply.ensures.brings (c.in_err-keep.ensures.new (ap Err (sym p.2 ∙ is)))
    (ap (λ (done : State × Reply). done.0.messages) (sym c.in_ok-reply.ensures.ok) ∙ same))

pub returns-in_err-text-clause-stops : goal.returns-in_err-text-clause-stops
returns-in_err-text-clause-stops g c = whether_err _ c.from_residual-in_err-text.result (λ alone k left. let is = alone k left in (is.0, either_old _ _ _ k is.1))

pub returns-in_err-keep-clause-stops : goal.returns-in_err-keep-clause-stops
returns-in_err-keep-clause-stops g c =
    whether_err _ c.from_residual-in_err-keep.result (λ alone k left.
    let it = c.in_err-keep.ensures.stops alone k left _ c.in_ok-reply.ensures.brings in (
      it.0,
      either_along _ c.reply_to.new.device.state.messages _ _ k (ap (λ (done : State × Reply). done.0.messages) (sym c.in_ok-reply.ensures.ok))
          it.1,
    ))

pub returns-clause-carries : goal.returns-clause-carries
returns-clause-carries g c = λ told.
    carries_along _ c.reply_to.new.device.state.messages _ _ _ (ap (λ (done : State × Reply). done.0.messages) (sym c.in_ok-reply.ensures.ok))
    (c.in_ok-keep.ensures.carries told _ c.in_ok-reply.ensures.brings)
