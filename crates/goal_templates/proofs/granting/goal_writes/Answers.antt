use Rattle.std.proofs.Common.{◌≡◌, false, sym, ap, ◌∙◌}
use Rattle.std.specs.Prelude.{flat_map}
use Rattle.std.proofs.lemmas.Result.{err_from_is_err_and}
use Rattle.envelope_cells.specs.Budget.{expense}
use Rattle.envelope_cells.specs.BudgetOf.{budget_of}
use Rattle.goal_templates.specs.Sides.{ids_on}
use Rattle.goal_templates.specs.Goals.{shares_in, grant_writes}
use Rattle.goal_templates.proofs.Naming.{accepted, refused, goal_writes_valid}
use Rattle.goal_templates.proofs.granting.goal_writes.Goals as goal

pub returns-clause-ok : goal.returns-clause-ok
returns-clause-ok c =
    let r = c.args.book.now.rows in
    let month = c.args.month in
    let ids : c.as_slice-expenses.result.now ≡ expense (budget_of r) = c.as_slice-expenses.ensures.value ∙ c.in_ok-ids.ensures ∙ ap (ids_on false) (c.as_slice-list.ensures ∙ c.in_ok-groups.ensures) in
    let ss : c.as_slice-given.result.now ≡ shares_in r month = c.as_slice-given.ensures.value ∙ c.in_ok-shares.ensures.shares in
    accepted r month _ _ ss ids c.in_ok-grants.grants.items c.in_ok-writes.writes.items (sym c.a_month.ensures ∙ c.in_ok-a_month.was) c.in_ok-grants.ensures.ok c.in_ok-grants.ensures.grants
    (c.in_ok-writes.ensures ∙ ap (flat_map (grant_writes r month)) c.as_slice-granted.ensures.value)

pub returns-clause-valid : goal.returns-clause-valid
returns-clause-valid c =
    let r = c.args.book.now.rows in
    let month = c.args.month in
    let ids : c.as_slice-expenses.result.now ≡ expense (budget_of r) = c.as_slice-expenses.ensures.value ∙ c.in_ok-ids.ensures ∙ ap (ids_on false) (c.as_slice-list.ensures ∙ c.in_ok-groups.ensures) in
    let ss : c.as_slice-given.result.now ≡ shares_in r month = c.as_slice-given.ensures.value ∙ c.in_ok-shares.ensures.shares in
    goal_writes_valid r month c.in_ok-writes.writes.items
    (accepted r month _ _ ss ids c.in_ok-grants.grants.items c.in_ok-writes.writes.items (sym c.a_month.ensures ∙ c.in_ok-a_month.was) c.in_ok-grants.ensures.ok c.in_ok-grants.ensures.grants
    (c.in_ok-writes.ensures ∙ ap (flat_map (grant_writes r month)) c.as_slice-granted.ensures.value))

pub returns-in_err-grants-clause-err : goal.returns-in_err-grants-clause-err
returns-in_err-grants-clause-err c =
    let r = c.args.book.now.rows in
    let month = c.args.month in
    let ids : c.as_slice-expenses.result.now ≡ expense (budget_of r) = c.as_slice-expenses.ensures.value ∙ c.in_ok-ids.ensures ∙ ap (ids_on false) (c.as_slice-list.ensures ∙ c.in_ok-groups.ensures) in
    let ss : c.as_slice-given.result.now ≡ shares_in r month = c.as_slice-given.ensures.value ∙ c.in_ok-shares.ensures.shares in
    let p = err_from_is_err_and c.from_residual-in_err-grants.result c.from_residual-in_err-grants.ensures.1 in
    let due = refused r month _ _ ss ids c.in_err-grants.field-0.0 (sym c.a_month.ensures ∙ c.in_ok-a_month.was) c.in_err-grants.ensures.err in
    rw (p.1, p.2) due
