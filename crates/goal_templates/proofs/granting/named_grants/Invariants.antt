use Rattle.std.proofs.Common.{◌≡◌, drop}
use Rattle.book_rows.specs.Ids.{budget_id}
use Rattle.book_edits.specs.Faults.{each}
use Rattle.book_edits.specs.Checks.{a_name}
use Rattle.goal_templates.specs.declared.share.Grant.{Grant}
use Rattle.goal_templates.proofs.granting.named_grants.Given as goal

abbrev pub invariant-loop-grant : goal.invariant-loop-grant
invariant-loop-grant l = each (λ (g : Grant). a_name (budget_id g.category l.month)) (drop l.grant-index l.grants) ≡ each (λ (g : Grant). a_name (budget_id g.category l.month)) l.grants
