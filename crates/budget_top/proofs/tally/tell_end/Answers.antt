use Rattle.std.proofs.Common.{◌∷◌, []}
use Rattle.std.specs.Prelude.{Result, Ok, Err, OnErr, decimal}
use Rattle.std.proofs.lemmas.Result.{err_from_is_err_and}
use Rattle.budget_top.specs.Serving.{end_text}
use Rattle.budget_top.proofs.Telling.{in_second, in_third, in_last}
use Rattle.budget_top.proofs.tally.tell_end.Goals as goal

on_err : {T E : Type 0} (r : Result T E) (P Q : Type 0) → (P → Q) → OnErr r P → OnErr r Q
on_err (Ok x) P Q f h = tt
on_err (Err e) P Q f h = f h

pub returns-in_err-write_all-clause-front : goal.returns-in_err-write_all-clause-front
returns-in_err-write_all-clause-front g c =
    let p = err_from_is_err_and c.from_residual-in_err-write_all.result c.from_residual-in_err-write_all.ensures.1 in
    rw p.1 (in_second _ _ _ (decimal c.args.number) (32 ∷ []) _ c.in_ok-write_number.ensures.all c.in_err-write_all.ensures.front)

pub returns-in_err-write_end-clause-front : goal.returns-in_err-write_end-clause-front
returns-in_err-write_end-clause-front g c =
    let p = err_from_is_err_and c.from_residual-in_err-write_end.result c.from_residual-in_err-write_end.ensures.1 in
    rw p.1 (in_third _ _ _ _ (decimal c.args.number) (32 ∷ []) (end_text c.args.end) (10 ∷ []) c.in_ok-write_number.ensures.all c.in_ok-write_all.ensures.all c.in_err-write_end.ensures.front)

pub returns-clause-front : goal.returns-clause-front
returns-clause-front g c =
    on_err c.write_and_flush.result _ _
    (in_last _ _ _ _ _ (decimal c.args.number) (32 ∷ []) (end_text c.args.end) (10 ∷ []) c.in_ok-write_number.ensures.all c.in_ok-write_all.ensures.all c.in_ok-write_end.ensures.all)
    c.write_and_flush.ensures.front
