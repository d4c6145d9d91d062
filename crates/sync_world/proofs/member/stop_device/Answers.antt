use Rattle.sync_world.specs.World.{changed}
use Rattle.sync_world.proofs.Changing.{has_stopped}
use Rattle.sync_world.proofs.member.stop_device.Goals as goal

pub returns-then-whole-clause-ok : goal.returns-then-whole-clause-ok
returns-then-whole-clause-ok g c =
    has_stopped (changed c.args.device.now.state c.args.edit.now c.args.reading) c.args.device.now c.change_device.new.device c.restart.new.self c.in_ok-changed.changed c.args.whole c.change_device.new.device.covered c.if-whole.true c.in_ok-changed.ensures.ok c.restart.ensures
