use Rattle.rule_laws.proofs.Actions.{actions_told}
use Rattle.rule_laws.proofs.laws.actions_are_told.Goals as goal

pub returns : goal.returns
returns c = actions_told
