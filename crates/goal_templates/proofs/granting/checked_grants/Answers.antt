use Rattle.std.proofs.Common.{◌∙◌}
use Rattle.std.proofs.lemmas.Result.{err_from_is_err_and}
use Rattle.goal_templates.specs.Goals.{grants}
use Rattle.goal_templates.proofs.Naming.{nameless}
use Rattle.goal_templates.proofs.granting.checked_grants.Goals as goal

pub returns-in_err-named_grants-clause-err : goal.returns-in_err-named_grants-clause-err
returns-in_err-named_grants-clause-err c =
    let p = err_from_is_err_and c.from_residual-in_err-named_grants.result c.from_residual-in_err-named_grants.ensures.1 in
    let all = grants c.args.book.now.rows c.args.month c.args.shares.now c.args.ids.now in
    let due = nameless c.args.month all c.as_slice.result.now c.in_err-named_grants.field-0.0 (c.as_slice.ensures.value ∙ c.in_ok-grants.ensures.ok) c.in_ok-grants.ensures.amounts c.in_err-named_grants.ensures.err in
    rw (p.1, p.2) due
