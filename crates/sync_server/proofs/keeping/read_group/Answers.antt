use Rattle.std.proofs.Common.{refl, inr, ap, [], subst, rules}
use Rattle.std.proofs.lemmas.Result.{err_from_is_err_and}
use Rattle.budget_ports.specs.Contents.{records_after}
use Rattle.kept_messages.specs.Records.{kept_set, IsStartFault}
use Rattle.sync_server.proofs.Faults.{free_port}
use Rattle.sync_server.proofs.keeping.read_group.Goals as goal

pub returns-in_err-records-clause-found : goal.returns-in_err-records-clause-found
returns-in_err-records-clause-found g c =
    let p = err_from_is_err_and c.from_residual.result c.from_residual.ensures.1 in
    (kept_set (records_after (g.K.Keeper.contents c.args.keeper.now) c.args.group.now []), λ _. refl, rw p.1 (free_port _ _ p.2))

pub returns-in-Err-BadRecord-clause-found : goal.returns-in-Err-BadRecord-clause-found
returns-in-Err-BadRecord-clause-found g c =
    (kept_set c.as_slice.result.now, λ t. ap kept_set (search rules), subst (IsStartFault (kept_set c.as_slice.result.now)) c.in-Err-BadRecord.field-0-is c.in-Err-BadRecord.ensures.err)

pub returns-clause-found : goal.returns-clause-found
returns-clause-found g c =
    (kept_set (records_after (g.K.Keeper.contents c.args.keeper.now) c.args.group.now []), λ _. refl, inr refl)
