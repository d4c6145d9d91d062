use Rattle.std.proofs.Common.{◌≡◌, ◌*◌, ◌^◌, ◌≤ℤ◌, neg_ℤ, pos, take}
use Rattle.finite_sums.specs.Sums.{total}
use Rattle.split_transfer.specs.declared.edit.SplitPart.{SplitPart}
use Rattle.split_transfer.proofs.splits.sum_of.Given as goal

abbrev pub invariant-loop-part : goal.invariant-loop-part
invariant-loop-part l =
    record {
      sum : l.sum ≡ total (λ (p : SplitPart). p.amount) (take l.part-index l.parts);
      low : neg_ℤ (pos (2 ^ 63 * l.part-index)) ≤ℤ l.sum;
      high : l.sum ≤ℤ pos (2 ^ 63 * l.part-index);
    }
