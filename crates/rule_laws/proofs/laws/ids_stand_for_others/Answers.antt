use Rattle.rule_laws.proofs.StandingFor.{stand_for_others}
use Rattle.rule_laws.proofs.laws.ids_stand_for_others.Goals as goal

pub returns : goal.returns
returns c = stand_for_others
