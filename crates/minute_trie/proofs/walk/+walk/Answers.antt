use Rattle.std.proofs.Common.{arith}
use Rattle.minute_trie.specs.Held.{at_node, at_below}
use Rattle.minute_trie.proofs.Walking.{three_pos, number_of_step}
use Rattle.minute_trie.proofs.walk.+walk.Goals as goal

pub walk_below-returns-in_default-clause-bound : goal.walk_below-returns-in_default-clause-bound
walk_below-returns-in_default-clause-bound t c = three_pos c.args.levels

pub walk_below-returns-in_default-2-clause-bound : goal.walk_below-returns-in_default-2-clause-bound
walk_below-returns-in_default-2-clause-bound t c = three_pos c.args.levels

pub walk-returns-in-None-clause-bound : goal.walk-returns-in-None-clause-bound
walk-returns-in-None-clause-bound t c = three_pos c.args.levels

pub walk-returns-in-Some-clause-number : goal.walk-returns-in-Some-clause-number
walk-returns-in-Some-clause-number t c =
    number_of_step c.args.levels c.in-Some.digit (at_node c.args.left.now) (at_below c.child.result.now) (at_node c.args.right.now) (at_below c.child-in-Some.result.now) _ c.walk_below-rest.result
    (omega arith) c.child.ensures c.child-in-Some.ensures c.in-Some.ensures c.walk_below-rest.ensures.number c.placed.ensures.number
