use Rattle.device_core.specs.Device.{accepted_as}
use Rattle.device_core.proofs.Accepting.{brings_device}
use Rattle.budget_top.proofs.Obeying.{whether_ok}
use Rattle.budget_top.proofs.answer.make.Goals as goal

pub returns-in-Ok-clause-brings : goal.returns-in-Ok-clause-brings
returns-in-Ok-clause-brings g c =
    let made = c.accepted_are_joined.ensures.of_edits c.args.device.now.state c.args.edit.now c.args.reading (accepted_as c.prepare.new.self c.in-Ok.count) c.in-Ok.ensures.ok in
    whether_ok _ c.wrote_reply.result (brings_device c.args.device.now.state.messages c.prepare.new.self c.in-Ok.count made.brings)
