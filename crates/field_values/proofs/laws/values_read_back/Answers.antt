use Rattle.field_values.proofs.Values.{values_read_back_lem}
use Rattle.field_values.proofs.laws.values_read_back.Goals as goal

pub returns : goal.returns
returns c = values_read_back_lem
