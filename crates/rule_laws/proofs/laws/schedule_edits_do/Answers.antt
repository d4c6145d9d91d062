use Rattle.rule_laws.proofs.ScheduleRows.{schedules_done}
use Rattle.rule_laws.proofs.laws.schedule_edits_do.Goals as goal

pub returns : goal.returns
returns c = schedules_done
