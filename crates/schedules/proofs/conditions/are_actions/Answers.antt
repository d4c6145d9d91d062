use Rattle.std.proofs.Common.{sym, ◌∙◌}
use Rattle.schedules.specs.Conditions.{is_action}
use Rattle.schedules.proofs.Lists.{all_next, all_cut, all_over}
use Rattle.schedules.proofs.conditions.are_actions.Goals as goal

pub returns-then-not-is_action : goal.returns-then-not-is_action
returns-then-not-is_action c = all_cut is_action c.args.entries.now.items c.deref-entry-items.result.now c.loop-entry.entry-index c.entry-item.result c.deref-entry-items.ensures.value c.entry-item.is c.loop-entry-test.true (sym c.is_action.ensures ∙ c.if-not-is_action.true) c.loop-entry.invariant

pub loop-entry-preserved : goal.loop-entry-preserved
loop-entry-preserved c = all_next is_action c.args.entries.now.items c.deref-entry-items.result.now c.loop-entry.entry-index c.entry-item.result c.deref-entry-items.ensures.value c.entry-item.is c.loop-entry-test.true (sym c.is_action.ensures ∙ c.if-not-is_action.false) c.loop-entry.invariant

pub returns : goal.returns
returns c = all_over is_action c.args.entries.now.items c.deref-entry-items.result.now c.loop-entry.entry-index c.deref-entry-items.ensures.value c.loop-entry-test.false c.loop-entry.invariant
