use Rattle.sync_world.proofs.Beginning.{device_begins}
use Rattle.sync_world.proofs.world.begin_device.Goals as goal

pub returns-in-Ok : goal.returns-in-Ok
returns-in-Ok c = device_begins c.in-Ok.device c.args.node c.in-Ok.ensures.messages c.in-Ok.ensures.state
