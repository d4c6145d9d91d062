use Rattle.std.proofs.Common.{rules, arith}
use mir.Syntax.{w128}
use mir.Val.{SFits}
use Rattle.std.proofs.lemmas.Int.{ints}
use Rattle.envelope_cells.proofs.part.next.Goals as goal

pub returns-clause-moved : goal.returns-clause-moved
returns-clause-moved c =
    let one : SFits w128 c.args.past.moved = search rules in
    let two : SFits w128 c.args.month.sum = search rules in
    omega (arith, ints, c.requires.sum, c.requires.moved)
