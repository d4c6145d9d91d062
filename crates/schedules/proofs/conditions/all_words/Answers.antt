use Rattle.std.proofs.Common.{sym, ◌∙◌, Some}
use Rattle.schedules.specs.Conditions.{is_words}
use Rattle.schedules.proofs.Lists.{all_next, all_cut, all_over}
use Rattle.schedules.proofs.conditions.all_words.Goals as goal

pub returns-then-not-is_words : goal.returns-then-not-is_words
returns-then-not-is_words c = all_cut (λ d. is_words (Some d)) c.args.entries.now.items c.deref-entry-items.result.now c.loop-entry.entry-index c.entry-item.result c.deref-entry-items.ensures.value c.entry-item.is c.loop-entry-test.true (sym c.is_words.ensures ∙ c.if-not-is_words.true) c.loop-entry.invariant

pub loop-entry-preserved : goal.loop-entry-preserved
loop-entry-preserved c = all_next (λ d. is_words (Some d)) c.args.entries.now.items c.deref-entry-items.result.now c.loop-entry.entry-index c.entry-item.result c.deref-entry-items.ensures.value c.entry-item.is c.loop-entry-test.true (sym c.is_words.ensures ∙ c.if-not-is_words.false) c.loop-entry.invariant

pub returns : goal.returns
returns c = all_over (λ d. is_words (Some d)) c.args.entries.now.items c.deref-entry-items.result.now c.loop-entry.entry-index c.deref-entry-items.ensures.value c.loop-entry-test.false c.loop-entry.invariant
