use Rattle.field_values.proofs.Values.{texts_write_back_lem}
use Rattle.field_values.proofs.laws.texts_write_back.Goals as goal

pub returns : goal.returns
returns c = texts_write_back_lem
