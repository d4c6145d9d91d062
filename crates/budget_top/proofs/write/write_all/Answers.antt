use Rattle.std.proofs.Common.{◌∙◌, arith, length-take, length-drop, take, drop}
use Rattle.std.proofs.lemmas.List.{take-append-drop}
use Rattle.std.proofs.lemmas.Result.{err_from_is_err_and}
use Rattle.std.proofs.KnownBytes.{Appends-kept}
use Rattle.budget_top.proofs.Writing.{after_write}
use Rattle.budget_top.proofs.write.write_all.Goals as goal

pub returns-in_err-at-clause-front : goal.returns-in_err-at-clause-front
returns-in_err-at-clause-front g c =
    let p = err_from_is_err_and c.from_residual.result c.from_residual.ensures.1 in
    rw p.1 (record {
      front = take c.loop-at.at c.args.bytes.now;
      of = (drop c.loop-at.at c.args.bytes.now, take-append-drop c.loop-at.at c.args.bytes.now);
      written = Appends-kept _ _ _ _ c.loop-at.invariant.written c.in_err-at.ensures.bytes;
    })

pub loop-at-preserved : goal.loop-at-preserved
loop-at-preserved g c = record {
  within = let b = c.in_ok-at.ensures.bound in omega (arith, simp (length-take, length-drop) at c.in_ok-at.ensures.bound);
  written = after_write _ _ _ c.args.bytes.now c.loop-at.at c.in_ok-at.field-0 c.loop-at.invariant.written c.in_ok-at.ensures.bytes;
  faults = c.in_ok-at.ensures.count ∙ c.loop-at.invariant.faults;
}
