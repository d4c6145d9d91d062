use Rattle.std.proofs.Common.{sym, ◌∙◌}
use Rattle.schedules.proofs.Lists.{float_next, float_found, float_over}
use Rattle.schedules.proofs.floats.+has_float.Goals as goal

pub items_have_float-returns-then-has_float : goal.items_have_float-returns-then-has_float
items_have_float-returns-then-has_float t c = float_found c.args.items.now.items c.deref-item-items.result.now c.loop-item.item-index c.item-item.result c.deref-item-items.ensures.value c.item-item.is c.loop-item-test.true (sym c.has_float.ensures ∙ c.if-has_float.true) c.loop-item.invariant

pub items_have_float-loop-item-preserved : goal.items_have_float-loop-item-preserved
items_have_float-loop-item-preserved t c = float_next c.args.items.now.items c.deref-item-items.result.now c.loop-item.item-index c.item-item.result c.deref-item-items.ensures.value c.item-item.is c.loop-item-test.true (sym c.has_float.ensures ∙ c.if-has_float.false) c.loop-item.invariant

pub items_have_float-returns : goal.items_have_float-returns
items_have_float-returns t c = float_over c.args.items.now.items c.deref-item-items.result.now c.loop-item.item-index c.deref-item-items.ensures.value c.loop-item-test.false c.loop-item.invariant
