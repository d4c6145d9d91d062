use Rattle.device_core.specs.Device.{accepted_as}
use Rattle.device_core.proofs.Accepting.{brings_device}
use Rattle.budget_top.proofs.Obeying.{whether_ok}
use Rattle.budget_top.proofs.answer.redo.Goals as goal

pub returns-in-Ok-clause-brings : goal.returns-in-Ok-clause-brings
returns-in-Ok-clause-brings g c =
    let made = c.accepted_are_joined.ensures.of_redo c.args.device.now.state c.args.reading (accepted_as c.redo.new.self c.in-Ok.count) c.in-Ok.ensures.ok in
    whether_ok _ c.wrote_reply.result (brings_device c.args.device.now.state.messages c.redo.new.self c.in-Ok.count made.brings)
