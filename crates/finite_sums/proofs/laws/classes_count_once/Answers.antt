use Rattle.finite_sums.proofs.Texts.{classes_count_once_lem}
use Rattle.finite_sums.proofs.laws.classes_count_once.Goals as goal

pub returns : goal.returns
returns g c = classes_count_once_lem _
