use Rattle.std.proofs.Common.{◌≡◌}
use Rattle.world_lines.specs.Session.{first_nodes}
use Rattle.world_lines.proofs.nodes.first_nodes.Given as goal

abbrev pub invariant-loop-made : goal.invariant-loop-made
invariant-loop-made l = l.nodes.items ≡ first_nodes l.made
