use Rattle.kept_pairs.proofs.Columns.{columns_told}
use Rattle.kept_pairs.proofs.laws.columns_are_told.Goals as goal

pub returns : goal.returns
returns c = columns_told
