use Rattle.kept_pairs.proofs.Columns.{plain_back}
use Rattle.kept_pairs.proofs.laws.plain_texts_read_back.Goals as goal

pub returns : goal.returns
returns c = plain_back
