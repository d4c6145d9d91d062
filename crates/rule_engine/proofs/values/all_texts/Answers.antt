use Rattle.std.proofs.Common.{ap, sym, ◌∙◌}
use Rattle.serde_json.specs.Find.{as_str}
use Rattle.rule_engine.specs.Reading.{ok_of}
use Rattle.rule_engine.proofs.Entries.{entry_bad, entries_over, reads_none, reads_more}
use Rattle.rule_engine.proofs.values.all_texts.Goals as goal

pub loop-entry-init : goal.loop-entry-init
loop-entry-init c = reads_none as_str c.args.entries.now.items c.new-texts.result.items c.new-texts.ensures.items

pub returns-in-None : goal.returns-in-None
returns-in-None c =
    ap ok_of (entry_bad as_str c.args.entries.now.items c.deref-entry-items.result.now c.loop-entry.entry-index c.entry-item.result c.loop-entry.texts.items c.deref-entry-items.ensures.value c.entry-item.is c.loop-entry-test.true (sym c.in-None.is ∙ c.in_ok-text.ensures) ∙ c.loop-entry.invariant)

pub loop-entry-preserved : goal.loop-entry-preserved
loop-entry-preserved c =
    reads_more as_str c.args.entries.now.items c.deref-entry-items.result.now c.loop-entry.entry-index c.entry-item.result c.loop-entry.texts.items c.push.new.self.items c.in-Some.text c.deref-entry-items.ensures.value c.entry-item.is c.loop-entry-test.true (sym c.in-Some.is ∙ c.in_ok-text.ensures) c.in_ok-push-in-Some.ensures.items c.loop-entry.invariant

pub returns : goal.returns
returns c =
    ap ok_of (entries_over as_str c.args.entries.now.items c.deref-entry-items.result.now c.loop-entry.entry-index c.loop-entry.texts.items c.deref-entry-items.ensures.value c.loop-entry-test.false ∙ c.loop-entry.invariant)
