use Rattle.std.proofs.Common.{refl, inr}
use Rattle.std.specs.FinMap as finite
use Rattle.std.proofs.lemmas.Result.{err_from_is_err_and}
use Rattle.sync_server.specs.Serving.{file_name}
use Rattle.sync_server.proofs.Faults.{free_port, free_memory}
use Rattle.sync_server.proofs.keeping.check_group.Goals as goal

pub returns-in_err-name-clause-found : goal.returns-in_err-name-clause-found
returns-in_err-name-clause-found g c =
    let p = err_from_is_err_and c.from_residual.result c.from_residual.ensures.1 in
    (finite.get (g.K.Keeper.contents c.args.keeper.now).texts (file_name c.args.request.now.file), λ _. refl, rw p.1 (inr (free_memory _ p.2)))

pub returns-in_err-group-clause-found : goal.returns-in_err-group-clause-found
returns-in_err-group-clause-found g c =
    let p = err_from_is_err_and c.from_residual-in_err-group.result c.from_residual-in_err-group.ensures.1 in
    (finite.get (g.K.Keeper.contents c.args.keeper.now).texts (file_name c.args.request.now.file), λ _. refl, rw p.1 (inr (free_port _ _ p.2)))
