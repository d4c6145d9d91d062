use Rattle.std.proofs.Common.{arith}
use Rattle.field_values.proofs.HeadLemmas.{by_front, by_next, by_lengths}
use Rattle.field_values.proofs.order.order_of_short.Goals as goal

pub returns-then-first-first_other : goal.returns-then-first-first_other
returns-then-first-first_other c =
    by_front 4 _ _ c.four-first.ensures.value c.four-first_other.ensures.value c.four-first.ensures.bytes c.four-first_other.ensures.bytes c.if-first-first_other.true c.cmp.ensures

pub returns-then-last-last_other : goal.returns-then-last-last_other
returns-then-last-last_other c =
    by_next _ 4 _ _ c.four-first.ensures.value c.four-first_other.ensures.value c.four-first.ensures.bytes c.four-first_other.ensures.bytes c.if-first-first_other.false (omega (arith, c.requires))
    c.four_at-last.ensures c.four_at-last_other.ensures c.if-last-last_other.true c.cmp-then-last-last_other.ensures

pub returns : goal.returns
returns c =
    by_lengths _ 4 _ _ c.four-first.ensures.value c.four-first_other.ensures.value c.four-first.ensures.bytes c.four-first_other.ensures.bytes c.if-first-first_other.false (omega (arith, c.requires))
    c.four_at-last.ensures c.four_at-last_other.ensures c.if-last-last_other.false (omega (arith, c.requires)) c.cmp-2.ensures
