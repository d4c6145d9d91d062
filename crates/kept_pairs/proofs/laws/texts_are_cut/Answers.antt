use Rattle.kept_pairs.proofs.Cutting.{texts_cut}
use Rattle.kept_pairs.proofs.laws.texts_are_cut.Goals as goal

pub returns : goal.returns
returns c = texts_cut
