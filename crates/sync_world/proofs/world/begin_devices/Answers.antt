use Rattle.std.proofs.Common.{subst}
use Rattle.hybrid_clock.specs.Node.{IsNode}
use Rattle.sync_world.proofs.world.begin_devices.Goals as goal

pub begin_device-requires : goal.begin_device-requires
begin_device-requires c = subst IsNode c.bytes-bytes.ensures.value c.bytes-bytes.ensures.node
