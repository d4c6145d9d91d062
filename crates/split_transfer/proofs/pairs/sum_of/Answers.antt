use Rattle.std.proofs.Common.{arith, ap}
use Rattle.std.proofs.lemmas.Int.{ints}
use Rattle.finite_sums.proofs.Totals.{total_more}
use Rattle.split_transfer.proofs.Kept.{amount_at}
use Rattle.split_transfer.proofs.pairs.sum_of.Goals as goal

pub loop-id-preserved : goal.loop-id-preserved
loop-id-preserved c =
    let more = total_more (amount_at c.args.book.now.rows) c.args.ids.now c.loop-id.id-index c.id-item.result (omega arith) in
    let is = ap (amount_at c.args.book.now.rows) c.id-item.is in
    record {
      sum = omega (arith, ints, more, is, c.kept_amount.ensures, c.loop-id.invariant.sum);
      low = omega (arith, ints, c.loop-id.invariant.low);
      high = omega (arith, ints, c.loop-id.invariant.high);
    }
