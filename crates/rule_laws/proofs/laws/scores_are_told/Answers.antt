use Rattle.rule_laws.proofs.Scoring.{scores_told}
use Rattle.rule_laws.proofs.laws.scores_are_told.Goals as goal

pub returns : goal.returns
returns c = scores_told
