use Rattle.std.proofs.Common.{◌≡◌, drop}
use Rattle.book_edits.specs.Checks.{an_amount}
use Rattle.split_transfer.specs.declared.edit.SplitPart.{SplitPart}
use Rattle.book_edits.specs.Faults.{each}
use Rattle.split_transfer.proofs.splits.all_amounts.Given as goal

abbrev pub invariant-loop-part : goal.invariant-loop-part
invariant-loop-part l = each (λ (p : SplitPart). an_amount p.amount) (drop l.part-index l.parts) ≡ each (λ (p : SplitPart). an_amount p.amount) l.parts
