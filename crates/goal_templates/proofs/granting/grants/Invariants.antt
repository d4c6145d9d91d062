use Rattle.std.proofs.Common.{◌≡◌, ◌++◌, drop}
use Rattle.book_edits.specs.Faults.{each}
use Rattle.book_edits.specs.Checks.{an_amount}
use Rattle.goal_templates.specs.declared.share.Grant.{Grant}
use Rattle.goal_templates.specs.Goals.{grants}
use Rattle.goal_templates.proofs.granting.grants.Given as goal

abbrev pub invariant-loop-id : goal.invariant-loop-id
invariant-loop-id l = record {
  listed : l.all.items ++ grants l.book.rows l.month l.shares (drop l.id-index l.ids) ≡ grants l.book.rows l.month l.shares l.ids;
  amounts : each (λ (g : Grant). an_amount g.amount) (grants l.book.rows l.month l.shares (drop l.id-index l.ids)) ≡ each (λ (g : Grant). an_amount g.amount) (grants l.book.rows l.month l.shares l.ids);
}
