use Rattle.budget_top.proofs.Obeying.{whether_err}
use Rattle.budget_top.proofs.Keeping.{carries, carries_none, none_of, stops_kept}
use Rattle.budget_top.proofs.answer.keep.Goals as goal

pub returns-in_err-append-clause-stops : goal.returns-in_err-append-clause-stops
returns-in_err-append-clause-stops g c =
    whether_err _ c.from_residual.result (λ only k h old b.
    stops_kept c.batches_are_kept.ensures old c.args.device.now c.args.group.now _ _ _ k _ _ c.log-log.ensures.valid c.requires.group c.batch-then-not-is_empty.ensures.batch only c.in_err-append.ensures.left h b)

pub returns-in_ok-append-clause-carries : goal.returns-in_ok-append-clause-carries
returns-in_ok-append-clause-carries g c = λ told old b.
    carries c.batches_are_kept.ensures old c.args.device.now c.args.group.now _ _ _ c.log-log.ensures.valid c.requires.group c.batch-then-not-is_empty.ensures.batch (c.in_ok-append.ensures.ok told) b

pub returns-else-not-is_empty-clause-carries : goal.returns-else-not-is_empty-clause-carries
returns-else-not-is_empty-clause-carries g c = λ told old b.
    carries_none c.batches_are_kept.ensures old c.args.device.now _ c.log-log.ensures.valid (none_of _ _ _ c.batch.ensures.batch c.is_empty.ensures c.if-not-is_empty.false) b
