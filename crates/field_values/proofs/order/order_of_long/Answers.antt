use Rattle.std.proofs.Common.{arith}
use Rattle.field_values.proofs.HeadLemmas.{by_front, by_next, by_lengths}
use Rattle.field_values.proofs.order.order_of_long.Goals as goal

pub returns-then-first-first_other : goal.returns-then-first-first_other
returns-then-first-first_other c =
    by_front 8 _ _ c.eight-first.ensures.value c.eight-first_other.ensures.value c.eight-first.ensures.bytes c.eight-first_other.ensures.bytes c.if-first-first_other.true c.cmp.ensures

pub returns-then-last-last_other : goal.returns-then-last-last_other
returns-then-last-last_other c =
    by_next _ 8 _ _ c.eight-first.ensures.value c.eight-first_other.ensures.value c.eight-first.ensures.bytes c.eight-first_other.ensures.bytes c.if-first-first_other.false (omega (arith, c.min-at.ensures))
    c.eight_at-last.ensures c.eight_at-last_other.ensures c.if-last-last_other.true c.cmp-then-last-last_other.ensures

pub returns-then-shorter-le16 : goal.returns-then-shorter-le16
returns-then-shorter-le16 c =
    by_lengths _ 8 _ _ c.eight-first.ensures.value c.eight-first_other.ensures.value c.eight-first.ensures.bytes c.eight-first_other.ensures.bytes c.if-first-first_other.false (omega (arith, c.min-at.ensures))
    c.eight_at-last.ensures c.eight_at-last_other.ensures c.if-last-last_other.false (omega (arith, c.requires, c.min-at.ensures, c.if-shorter-le16.true)) c.cmp-then-shorter-le16.ensures
