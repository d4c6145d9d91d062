use Rattle.std.proofs.Common.{length-take, arith, refl}
use Rattle.budget_top.proofs.Reading.{read_more}
use Rattle.budget_top.proofs.input.read_piece.Goals as goal

pub returns-in-Ok-clause-reads : goal.returns-in-Ok-clause-reads
returns-in-Ok-clause-reads g c = λ left read reads many.
    read_more left _ _ read c.read.new.buffer _ c.args.taken c.in-Ok.count c.min.result c.min-most.result _ many c.requires reads c.in-Ok.ensures.bytes.0
    c.in-Ok.ensures.bound.0 (omega (arith, simp length-take at c.read.auto.buffer)) (omega (arith, c.min-most.ensures)) c.in-Ok.count-test.1 c.min.ensures refl
