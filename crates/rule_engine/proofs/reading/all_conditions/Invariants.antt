use Rattle.rule_engine.specs.Reading.{condition_of}
use Rattle.rule_engine.proofs.Entries.{Reads}
use Rattle.rule_engine.proofs.reading.all_conditions.Given as goal

abbrev pub invariant-loop-at : goal.invariant-loop-at
invariant-loop-at l = Reads condition_of l.entries.items l.at l.conditions.items
