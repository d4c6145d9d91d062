use Rattle.std.proofs.Common.{◌∙◌, Err, inl, inr, refl, sym, subst}
use Rattle.std.proofs.lemmas.Result.{err_from_is_err_and}
use Rattle.sync_server.specs.Keeping.{Learns}
use Rattle.sync_server.proofs.Sets.{taken_out, learned}
use Rattle.sync_server.proofs.keeping.open_whole.Goals as goal

pub returns-in_err-reading-clause-found : goal.returns-in_err-reading-clause-found
returns-in_err-reading-clause-found g c =
    let p = err_from_is_err_and c.from_residual.result c.from_residual.ensures.1 in
    let f = c.in_err-reading.ensures.found in
    (f.0, f.1, rw (p.1, p.2) (inr f.2, taken_out c.args.state.now c.open_group.new.state c.args.group.now f.0 c.in_err-reading.ensures.rest))

pub returns-in-Ok-clause-found : goal.returns-in-Ok-clause-found
returns-in-Ok-clause-found g c =
    let f = c.in_ok-reading.ensures.found in
    (f.0, f.1, (f.2 ∙ c.in-Ok.is, c.in_ok-reading.ensures.rest))

pub returns-in_ok-put-in-Err-clause-found : goal.returns-in_ok-put-in-Err-clause-found
returns-in_ok-put-in-Err-clause-found g c =
    let f = c.in_ok-reading.ensures.found in
    let e = f.2 ∙ c.in-Err.is in
    (f.0, f.1, (inl (c.in-Err.index, e, refl), subst (Learns c.args.state.now c.put.new.self c.args.group.now) (sym e) (learned c.args.state.now c.open_group.new.state c.put.new.self c.args.group.now (Err c.in-Err.index) c.in_ok-reading.ensures.rest c.in_ok-put-in-Err.ensures.ok)))
