use Rattle.std.proofs.Common.{ℕ, List, false, ap₂}
use Rattle.sync_world.specs.World.{WorldState}
use Rattle.sync_world.proofs.Wholes.{begins_holds, begins_world, begins_covered}
use Rattle.sync_world.proofs.world.World.new.Goals as goal

pub invariant_of-result : goal.invariant_of-result
invariant_of-result c = λ _.
    begins_holds c.args.nodes.now c.in_ok-devices.devices.items c.new-server.result c.new-trie.result c.new.result.items c.new-2.result.items c.new-3.result.items c.new-4.result.items c.new-5.result.items
    c.requires c.in_ok-devices.ensures c.new-server.ensures c.new-trie.ensures.live c.new-trie.ensures.empty
    c.new.ensures.items c.new-2.ensures.items c.new-3.ensures.items c.new-4.ensures.items c.new-5.ensures.items

pub returns : goal.returns
returns c =
    ap₂ (λ (w : WorldState) (rs : List (ℕ × ℕ)). record { world = w; covered = rs; spent = false })
    (begins_world c.args.nodes.now c.in_ok-devices.devices.items c.new-server.result c.new.result.items c.new-2.result.items c.new-3.result.items c.new-4.result.items c.new-5.result.items
    c.in_ok-devices.ensures c.new-server.ensures c.new.ensures.items c.new-2.ensures.items c.new-3.ensures.items c.new-4.ensures.items c.new-5.ensures.items)
    (begins_covered c.args.nodes.now c.in_ok-devices.devices.items c.in_ok-devices.ensures)
