use Rattle.std.proofs.Common.{◌∙◌, arith, length-take, length-drop, take, drop, sym}
use Rattle.std.proofs.lemmas.List.{take-append-drop}
use Rattle.std.proofs.lemmas.Result.{err_from_is_err_and}
use Rattle.sync_server.proofs.Pieces.{after_write, kept_to, not_over, stays_on}
use Rattle.sync_server.proofs.writing.write_all.Goals as goal

pub returns-in_err-at-clause-front : goal.returns-in_err-at-clause-front
returns-in_err-at-clause-front g c =
    let p = err_from_is_err_and c.from_residual.result c.from_residual.ensures.1 in
    rw p.1 (record {
      front = take c.loop-at.at c.args.bytes.now;
      rest = drop c.loop-at.at c.args.bytes.now;
      of = sym (take-append-drop c.loop-at.at c.args.bytes.now);
      some = not_over c.loop-at.at c.args.bytes.now c.loop-at-test.true;
      wrote = kept_to _ _ _ _ c.loop-at.invariant.wrote c.in_err-at.ensures.err;
    })

pub loop-at-preserved : goal.loop-at-preserved
loop-at-preserved g c = record {
  within = let b = c.in_ok-at.ensures.bound in omega (arith, simp (length-take, length-drop) at c.in_ok-at.ensures.bound);
  wrote = after_write _ _ _ c.args.bytes.now c.loop-at.at c.in_ok-at.field-0 c.loop-at.invariant.wrote c.in_ok-at.ensures.bytes;
  waiting = stays_on _ _ _ c.loop-at.invariant.waiting c.in_ok-at.ensures.others.0;
  count = c.in_ok-at.ensures.count ∙ c.loop-at.invariant.count;
}
