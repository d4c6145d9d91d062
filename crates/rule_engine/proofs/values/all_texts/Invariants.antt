use Rattle.serde_json.specs.Find.{as_str}
use Rattle.rule_engine.proofs.Entries.{Reads}
use Rattle.rule_engine.proofs.values.all_texts.Given as goal

abbrev pub invariant-loop-entry : goal.invariant-loop-entry
invariant-loop-entry l = Reads as_str l.entries.items l.entry-index l.texts.items
