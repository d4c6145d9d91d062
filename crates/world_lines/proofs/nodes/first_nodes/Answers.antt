use Rattle.std.proofs.Common.{sym, subst, arith}
use Rattle.sync_world.specs.Right.{AreDifferent}
use Rattle.world_lines.proofs.Naming.{different}
use Rattle.world_lines.proofs.nodes.first_nodes.Goals as goal

pub returns-clause-different : goal.returns-clause-different
returns-clause-different c = subst AreDifferent (sym c.loop-made.invariant) (different c.loop-made.made (omega (arith, c.loop-made.auto.made-end, c.requires)))
