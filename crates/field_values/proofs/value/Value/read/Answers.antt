use Rattle.field_values.proofs.Values.{value_of_is}
use Rattle.field_values.proofs.value.Value.read.Goals as goal

pub returns-clause-value : goal.returns-clause-value
returns-clause-value c = value_of_is _ _ c.in_ok-value.ensures.valid c.in_ok-value.ensures.same_text
