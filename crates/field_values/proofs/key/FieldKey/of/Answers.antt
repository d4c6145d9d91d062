use Rattle.std.proofs.Common.{rules}
use Rattle.field_values.specs.Heads.{KeepsHeads}
use Rattle.field_values.proofs.key.FieldKey.of.Goals as goal

pub invariant_of-result : goal.invariant_of-result
unfolding KeepsHeads
invariant_of-result c = search rules
