use Rattle.std.proofs.Common.{inr, sym}
use Rattle.std.proofs.lemmas.Result.{err_from_is_err_and}
use Rattle.sync_server.proofs.Faults.{free_memory}
use Rattle.sync_server.proofs.Sets.{taken_out, still_out, put_back}
use Rattle.sync_server.proofs.keeping.prepare.Goals as goal

pub returns-in_err-opened-clause-found : goal.returns-in_err-opened-clause-found
returns-in_err-opened-clause-found g c =
    let p = err_from_is_err_and c.from_residual.result c.from_residual.ensures.1 in
    let f = c.in_err-opened.ensures.found in
    (f.0, f.1, rw (p.1, p.2) f.2)

pub returns-in_err-joined-clause-found : goal.returns-in_err-joined-clause-found
returns-in_err-joined-clause-found g c =
    let p = err_from_is_err_and c.from_residual-in_err-joined.result c.from_residual-in_err-joined.ensures.1 in
    let f = c.in_ok-opened.ensures.found in
    (f.0, f.1, rw p.1 (inr (free_memory _ p.2), taken_out c.args.state.now c.open_whole.new.state c.args.request.now.group f.0 f.2.1))

pub returns-in_err-put-clause-found : goal.returns-in_err-put-clause-found
returns-in_err-put-clause-found g c =
    let p = err_from_is_err_and c.from_residual-in_err-put.result c.from_residual-in_err-put.ensures.1 in
    let f = c.in_ok-opened.ensures.found in
    (f.0, f.1, rw p.1 (inr (free_memory _ p.2), still_out c.args.state.now c.open_whole.new.state c.put.new.self c.args.request.now.group f.0 f.2.1 c.in_err-put.ensures.err))

pub returns-clause-found : goal.returns-clause-found
returns-clause-found g c =
    let f = c.in_ok-opened.ensures.found in (
      f.0,
      f.1,
      (
        c.in_ok-opened.opened,
        f.2.0,
        record {
          reply = c.in_ok-joined.ensures.reply;
          means = c.in_ok-joined.ensures.means;
          batch = c.in_ok-joined.ensures.batch;
          state = rw (sym c.in_ok-joined.ensures.joined) (put_back c.args.state.now c.open_whole.new.state c.put.new.self c.args.request.now.group _ f.2.1 c.in_ok-put.ensures.ok);
        },
      ),
    )
