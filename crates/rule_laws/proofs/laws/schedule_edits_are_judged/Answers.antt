use Rattle.rule_laws.proofs.Asked.{schedules_judged}
use Rattle.rule_laws.proofs.laws.schedule_edits_are_judged.Goals as goal

pub returns : goal.returns
returns c = schedules_judged
