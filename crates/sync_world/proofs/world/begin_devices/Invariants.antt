use Rattle.std.proofs.Common.{◌≡◌, List, [], ℕ, map}
use Rattle.std.specs.Prelude.{take}
use Rattle.device_core.specs.Device.{at_rest, begun}
use Rattle.sync_world.proofs.world.begin_devices.Given as goal

abbrev pub invariant-loop-node : goal.invariant-loop-node
invariant-loop-node l = l.devices.items ≡ map (λ (node : List ℕ). at_rest (begun node [])) (take l.node-index l.nodes)
