use Rattle.std.proofs.Common.{true, cond, ap, sym, ◌∙◌}
use Rattle.std.specs.List.{list_any}
use Rattle.std.specs.BTreeMap.{is_at}
use Rattle.std.specs.BTreeSet as set
use Rattle.field_values.specs.Names.{FieldNames, names_eq, names_cmp}
use Rattle.edit_history.specs.declared.before.Before.{Before}
use Rattle.edit_history.proofs.Growing.{seen_more, wrote_snoc}
use Rattle.edit_history.proofs.before.push_before.Goals as goal

pub returns-in_ok-push-clause-seen : goal.returns-in_ok-push-clause-seen
returns-in_ok-push-clause-seen c = λ f.
    c.in_ok-insert.ensures.updates.0 f
    ∙ ap (λ (k : FieldNames). cond (is_at (names_cmp k) f) true (set.contains names_cmp c.args.seen.now f)) c.in_ok-copy.ensures
    ∙ seen_more c.args.field.now f (set.contains names_cmp c.args.seen.now f)
    ∙ ap (cond (names_eq c.args.field.now f) true) (c.requires.seen f)
    ∙ ap (λ (b : Before). cond (names_eq b.field f) true (list_any (λ (b : Before). names_eq b.field f) c.args.found.now.items)) (sym c.in_ok-before_of.ensures)
    ∙ sym (wrote_snoc (λ (b : Before). b.field) c.args.found.now.items c.in_ok-before_of.field-0 f)
    ∙ ap (list_any (λ (b : Before). names_eq b.field f)) (sym c.in_ok-push.ensures.items)
