use Rattle.std.proofs.Common.{◌+◌, ◌++◌, drop, ap, refl, ◌∙◌, arith}
use Rattle.std.proofs.lemmas.Result.{err_from_is_err_and}
use Rattle.envelope_cells.proofs.Lists.{turn}
use Rattle.goal_templates.specs.Goals.{granted, grants}
use Rattle.goal_templates.proofs.Naming.{one_held, one_not_held}
use Rattle.goal_templates.proofs.granting.grants.Goals as goal

pub returns-in_err-push_grant-clause-err : goal.returns-in_err-push_grant-clause-err
returns-in_err-push_grant-clause-err c =
    let p = err_from_is_err_and c.from_residual.result c.from_residual.ensures.1 in
    let due = one_not_held c.args.book.now.rows c.args.month c.args.shares.now c.args.ids.now c.loop-id.id-index c.id-item.result (omega arith) c.id-item.is c.in_err-push_grant.field-0.0 c.loop-id.invariant.amounts c.in_err-push_grant.ensures.err in
    rw (p.1, p.2) due

pub loop-id-preserved : goal.loop-id-preserved
loop-id-preserved c =
    let r = c.args.book.now.rows in
    let month = c.args.month in
    let ss = c.args.shares.now in
    let i = c.loop-id.id-index in
    record {
      listed = ap (λ done. done ++ grants r month ss (drop (i + 1) c.args.ids.now)) c.in_ok-push_grant.ensures.ok
          ∙ turn (grants r month ss) (granted r month ss) (λ x xs. refl) c.loop-id.all.items _ c.args.ids.now i c.id-item.result (omega arith) c.id-item.is c.loop-id.invariant.listed;
      amounts = one_held r month ss c.args.ids.now i c.id-item.result (omega arith) c.id-item.is c.in_ok-push_grant.ensures.amounts c.loop-id.invariant.amounts;
    }
