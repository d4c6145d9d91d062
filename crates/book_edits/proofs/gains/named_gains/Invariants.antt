use Rattle.std.proofs.Common.{◌≡◌, drop}
use Rattle.book_rows.specs.Ids.{budget_id}
use Rattle.book_edits.specs.declared.gains.Gain.{Gain}
use Rattle.book_edits.specs.Faults.{each}
use Rattle.book_edits.specs.Checks.{a_name}
use Rattle.book_edits.proofs.gains.named_gains.Given as goal

abbrev pub invariant-loop-gain : goal.invariant-loop-gain
invariant-loop-gain l = each (λ (g : Gain). a_name (budget_id l.to g.month)) (drop l.gain-index l.gains) ≡ each (λ (g : Gain). a_name (budget_id l.to g.month)) l.gains
