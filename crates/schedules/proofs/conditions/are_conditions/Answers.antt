use Rattle.std.proofs.Common.{sym, ◌∙◌}
use Rattle.schedules.specs.Conditions.{is_condition}
use Rattle.schedules.proofs.Lists.{all_next, all_cut, all_over}
use Rattle.schedules.proofs.conditions.are_conditions.Goals as goal

pub returns-then-not-is_condition : goal.returns-then-not-is_condition
returns-then-not-is_condition c = all_cut is_condition c.args.entries.now.items c.deref-entry-items.result.now c.loop-entry.entry-index c.entry-item.result c.deref-entry-items.ensures.value c.entry-item.is c.loop-entry-test.true (sym c.is_condition.ensures ∙ c.if-not-is_condition.true) c.loop-entry.invariant

pub loop-entry-preserved : goal.loop-entry-preserved
loop-entry-preserved c = all_next is_condition c.args.entries.now.items c.deref-entry-items.result.now c.loop-entry.entry-index c.entry-item.result c.deref-entry-items.ensures.value c.entry-item.is c.loop-entry-test.true (sym c.is_condition.ensures ∙ c.if-not-is_condition.false) c.loop-entry.invariant

pub returns : goal.returns
returns c = all_over is_condition c.args.entries.now.items c.deref-entry-items.result.now c.loop-entry.entry-index c.deref-entry-items.ensures.value c.loop-entry-test.false c.loop-entry.invariant
