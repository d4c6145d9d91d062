use Rattle.field_values.proofs.HeadLemmas.{by_head, in_head, opened}
use Rattle.field_values.proofs.key.FieldKey.dataset_cmp.Goals as goal

pub returns-then-self-other : goal.returns-then-self-other
returns-then-self-other c = rw (← c.self.view_is, ← c.other.view_is)
    (by_head (opened c.self.invariant).of_dataset (opened c.other.invariant).of_dataset c.if-self-other.true c.cmp.ensures)

pub returns-then-self-le-HEAD_LEN : goal.returns-then-self-le-HEAD_LEN
returns-then-self-le-HEAD_LEN c = rw (← c.self.view_is, ← c.other.view_is)
    (in_head (opened c.self.invariant).of_dataset (opened c.other.invariant).of_dataset c.if-self-other.false c.if-self-other-2.true c.if-self-le-HEAD_LEN.true)
