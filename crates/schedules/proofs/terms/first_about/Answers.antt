use Rattle.std.proofs.Common.{sym, ◌∙◌}
use Rattle.schedules.specs.Terms.{fits}
use Rattle.schedules.proofs.Lists.{first_next, first_found, first_over}
use Rattle.schedules.proofs.terms.first_about.Goals as goal

pub returns-then-fits : goal.returns-then-fits
returns-then-fits c = first_found (fits c.args.about) c.args.entries.now.items c.deref-entry-items.result.now c.loop-entry.entry-index c.entry-item.result c.deref-entry-items.ensures.value c.entry-item.is c.loop-entry-test.true (sym c.fits.ensures ∙ c.if-fits.true) c.loop-entry.invariant

pub loop-entry-preserved : goal.loop-entry-preserved
loop-entry-preserved c = first_next (fits c.args.about) c.args.entries.now.items c.deref-entry-items.result.now c.loop-entry.entry-index c.entry-item.result c.deref-entry-items.ensures.value c.entry-item.is c.loop-entry-test.true (sym c.fits.ensures ∙ c.if-fits.false) c.loop-entry.invariant

pub returns : goal.returns
returns c = first_over (fits c.args.about) c.args.entries.now.items c.deref-entry-items.result.now c.loop-entry.entry-index c.deref-entry-items.ensures.value c.loop-entry-test.false c.loop-entry.invariant
