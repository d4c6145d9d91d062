use Rattle.std.proofs.Common.{◌≡◌, ◌*◌, ◌^◌, ◌≤ℤ◌, neg_ℤ, pos, take}
use Rattle.finite_sums.specs.Sums.{total}
use Rattle.split_transfer.proofs.Kept.{amount_at}
use Rattle.split_transfer.proofs.pairs.sum_of.Given as goal

abbrev pub invariant-loop-id : goal.invariant-loop-id
invariant-loop-id l =
    record {
      sum : l.sum ≡ total (amount_at l.book.rows) (take l.id-index l.ids);
      low : neg_ℤ (pos (2 ^ 63 * l.id-index)) ≤ℤ l.sum;
      high : l.sum ≤ℤ pos (2 ^ 63 * l.id-index);
    }
