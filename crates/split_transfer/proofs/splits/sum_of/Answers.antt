use Rattle.std.proofs.Common.{◌≡◌, get_or, arith, ap}
use Rattle.std.proofs.lemmas.Int.{ints}
use Rattle.finite_sums.proofs.Totals.{total_more}
use Rattle.split_transfer.specs.declared.edit.SplitPart.{SplitPart}
use Rattle.split_transfer.proofs.splits.sum_of.Goals as goal

pub loop-part-preserved : goal.loop-part-preserved
loop-part-preserved c =
    let more = total_more (λ (p : SplitPart). p.amount) c.args.parts.now c.loop-part.part-index c.part-item.result (omega arith) in
    let is : c.part-item.result.amount ≡ (get_or c.args.parts.now c.loop-part.part-index c.part-item.result).amount = ap (λ (p : SplitPart). p.amount) c.part-item.is in
    record {
      sum = omega (arith, ints, more, is, c.amount_of.ensures, c.loop-part.invariant.sum);
      low = omega (arith, ints, c.loop-part.invariant.low);
      high = omega (arith, ints, c.loop-part.invariant.high);
    }
