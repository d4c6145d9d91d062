use Rattle.std.proofs.Common.{arith}
use Rattle.envelope_cells.proofs.Quiet.{quiet_none, quiet_some}
use Rattle.envelope_cells.proofs.part.first_month.Goals as goal

pub returns-in-None-clause-quiet : goal.returns-in-None-clause-quiet
returns-in-None-clause-quiet c = quiet_none c.args.book.now.rows c.in-None.ensures.window c.args.number (omega arith)

pub returns-in-Some-clause-quiet : goal.returns-in-Some-clause-quiet
returns-in-Some-clause-quiet c = quiet_some c.args.book.now.rows c.in-Some.span c.in-Some.ensures.window c.first_of.result (omega arith) c.first_of.ensures.below
