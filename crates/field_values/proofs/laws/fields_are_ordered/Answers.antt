use Rattle.field_values.proofs.FieldOrder.{fields_are_ordered_lem}
use Rattle.field_values.proofs.laws.fields_are_ordered.Goals as goal

pub returns : goal.returns
returns c = fields_are_ordered_lem
