use Rattle.field_values.proofs.HeadLemmas.{by_one, by_two, by_three, in_three, opened}
use Rattle.field_values.proofs.key.FieldKey.row_cmp.Goals as goal

pub returns-then-self-other : goal.returns-then-self-other
returns-then-self-other c = rw (← c.self.view_is, ← c.other.view_is)
    (by_one (opened c.self.invariant).of_row (opened c.other.invariant).of_row c.if-self-other.true c.cmp.ensures)

pub returns-then-self-other-2 : goal.returns-then-self-other-2
returns-then-self-other-2 c = rw (← c.self.view_is, ← c.other.view_is)
    (by_two (opened c.self.invariant).of_row (opened c.other.invariant).of_row c.if-self-other.false c.if-self-other-2.true c.cmp-then-self-other-2.ensures)

pub returns-then-self-other-3 : goal.returns-then-self-other-3
returns-then-self-other-3 c = rw (← c.self.view_is, ← c.other.view_is)
    (by_three (opened c.self.invariant).of_row (opened c.other.invariant).of_row c.if-self-other.false c.if-self-other-2.false c.if-self-other-3.true c.cmp-then-self-other-3.ensures)

pub returns-then-self-le-ROW_LEN : goal.returns-then-self-le-ROW_LEN
returns-then-self-le-ROW_LEN c = rw (← c.self.view_is, ← c.other.view_is)
    (in_three (opened c.self.invariant).of_row (opened c.other.invariant).of_row c.if-self-other.false c.if-self-other-2.false c.if-self-other-3.false c.if-self-other-4.true c.if-self-le-ROW_LEN.true)
