use Rattle.std.proofs.Common.{refl}
use Rattle.budget_top.proofs.Standing.{stands_within}
use Rattle.budget_top.proofs.merge.Merge.keep.Goals as goal

pub returns-clause-ok : goal.returns-clause-ok
returns-clause-ok c = λ entry now read h. stands_within entry now read c.args.bytes.now c.args.self.now _ c.requires refl c.in_ok-push.ensures.ok refl refl h
