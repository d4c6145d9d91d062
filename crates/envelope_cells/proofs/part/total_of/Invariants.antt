use Rattle.std.proofs.Common.{◌≡◌, ◌+ℤ◌, drop}
use Rattle.finite_sums.specs.Sums.{total}
use Rattle.envelope_cells.specs.Parts.{picked}
use Rattle.envelope_cells.proofs.part.total_of.Given as goal

abbrev pub invariant-loop-part : goal.invariant-loop-part
invariant-loop-part l = l.sum +ℤ total (picked l.pick) (drop l.part-index l.parts) ≡ total (picked l.pick) l.parts
