use Rattle.std.proofs.Common.{arith}
use Rattle.book_rows.proofs.Powers.{small_at}
use Rattle.book_rows.proofs.amounts.cents.Goals as goal

pub overflow_mul-whole : goal.overflow_mul-whole
overflow_mul-whole c = omega (arith, small_at c.loop-i.i c.loop-i.whole c.loop-i.invariant.few c.loop-i.invariant.small)

pub overflow_add-whole : goal.overflow_add-whole
overflow_add-whole c = omega (arith, small_at c.loop-i.i c.loop-i.whole c.loop-i.invariant.few c.loop-i.invariant.small, c.type_inv.text c.loop-i.i)

pub fraction-requires : goal.fraction-requires
fraction-requires c = small_at c.loop-i.i c.loop-i.whole c.loop-i.invariant.few c.loop-i.invariant.small

pub overflow_mul-result : goal.overflow_mul-result
overflow_mul-result c = omega (arith, small_at c.loop-i.i c.loop-i.whole c.loop-i.invariant.few c.loop-i.invariant.small)

pub returns-else-is_empty-clause-small : goal.returns-else-is_empty-clause-small
returns-else-is_empty-clause-small c = omega (arith, small_at c.loop-i.i c.loop-i.whole c.loop-i.invariant.few c.loop-i.invariant.small)
