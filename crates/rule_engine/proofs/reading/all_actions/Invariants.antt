use Rattle.rule_engine.specs.Reading.{action_of}
use Rattle.rule_engine.proofs.Entries.{Reads}
use Rattle.rule_engine.proofs.reading.all_actions.Given as goal

abbrev pub invariant-loop-at : goal.invariant-loop-at
invariant-loop-at l = Reads action_of l.entries.items l.at l.actions.items
