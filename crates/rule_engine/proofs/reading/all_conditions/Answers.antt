use Rattle.std.proofs.Common.{ap, sym, ◌∙◌, Err}
use Rattle.book_rows.specs.declared.fault.EditFault.{EditFault}
use Rattle.book_rows.specs.declared.fault.RulePart.TheVariants.{Conditions}
use Rattle.rule_engine.specs.Reading.{condition_of, or_bad}
use Rattle.rule_engine.proofs.Entries.{entry_bad, entries_over, reads_none, reads_more}
use Rattle.rule_engine.proofs.reading.all_conditions.Goals as goal

pub loop-at-init : goal.loop-at-init
loop-at-init c = reads_none condition_of c.args.entries.now.items c.new-conditions.result.items c.new-conditions.ensures.items

pub returns-in-None-clause-err : goal.returns-in-None-clause-err
returns-in-None-clause-err c other =
    ap (or_bad Conditions) (sym (entry_bad condition_of c.args.entries.now.items c.deref-entry-items.result.now c.loop-at.at c.entry-item.result c.loop-at.conditions.items c.deref-entry-items.ensures.value c.entry-item.is c.loop-at-test.true (sym c.in-None.is ∙ c.in_ok-condition.ensures) ∙ c.loop-at.invariant))
    ∙ ap (λ (fault : EditFault). Err fault) (sym c.bad.ensures)

pub loop-at-preserved : goal.loop-at-preserved
loop-at-preserved c =
    reads_more condition_of c.args.entries.now.items c.deref-entry-items.result.now c.loop-at.at c.entry-item.result c.loop-at.conditions.items c.push.new.self.items c.in-Some.condition c.deref-entry-items.ensures.value c.entry-item.is c.loop-at-test.true (sym c.in-Some.is ∙ c.in_ok-condition.ensures) c.in_ok-push-in-Some.ensures.items c.loop-at.invariant

pub returns-clause-ok : goal.returns-clause-ok
returns-clause-ok c =
    ap (or_bad Conditions) (sym (entries_over condition_of c.args.entries.now.items c.deref-entry-items.result.now c.loop-at.at c.loop-at.conditions.items c.deref-entry-items.ensures.value c.loop-at-test.false ∙ c.loop-at.invariant))
