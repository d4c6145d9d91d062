use Rattle.std.proofs.Common.{◌≡◌, ◌+ℤ◌, drop}
use Rattle.tracking_budget.specs.Parts.{side_total}
use Rattle.tracking_budget.proofs.part.total_of.Given as goal

abbrev pub invariant-loop-part : goal.invariant-loop-part
invariant-loop-part l = l.sum +ℤ side_total l.pick l.income (drop l.part-index l.parts) ≡ side_total l.pick l.income l.parts
