use Rattle.std.proofs.Common.{◌≡◌, IfOk, subst}
use Rattle.envelope_cells.specs.BudgetOf.{budget_of}
use Rattle.goal_templates.specs.Notes.{templates}
use Rattle.goal_templates.specs.Allocation.{allocation}
use Rattle.goal_templates.proofs.granting.shares_of.Goals as goal

pub returns-clause-shares : goal.returns-clause-shares
returns-clause-shares c =
    let r = c.args.book.now.rows in
    subst (λ n. IfOk c.shares_over.result (λ ss. ss.items ≡ allocation (budget_of r) n (templates r))) c.month_number-number.ensures.number c.shares_over.ensures.shares
