use Rattle.rule_laws.proofs.RecurrenceWords.{recurrences_back}
use Rattle.rule_laws.proofs.laws.recurrences_read_back.Goals as goal

pub returns : goal.returns
returns c = recurrences_back
