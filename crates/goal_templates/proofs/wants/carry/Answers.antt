use Rattle.std.proofs.Common.{rules, ap, arith, unsigned_abs}
use mir.Syntax.{w128}
use mir.Val.{SFits}
use Rattle.std.proofs.lemmas.Int.{ints}
use Rattle.envelope_cells.specs.BudgetOf.{budget_of}
use Rattle.envelope_cells.proofs.Parts.{left_small}
use Rattle.goal_templates.proofs.wants.carry.Goals as goal

pub returns-clause-small : goal.returns-clause-small
returns-clause-small c =
    let fits : SFits w128 c.rolled_over.result = search rules in
    let left : SFits w128 c.in_ok-past.past.left = search rules in
    omega (arith, ints, c.rolled_over.ensures.small, left_small (budget_of c.args.book.now.rows) c.args.id.now c.args.number, ap unsigned_abs c.in_ok-past.ensures.left, c.requires.small)
