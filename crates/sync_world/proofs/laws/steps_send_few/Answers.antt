use Rattle.sync_world.proofs.Sending.{send_few}
use Rattle.sync_world.proofs.laws.steps_send_few.Goals as goal

pub returns : goal.returns
returns c = send_few
