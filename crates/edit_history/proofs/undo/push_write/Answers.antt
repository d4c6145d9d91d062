use Rattle.std.proofs.Common.{true, cond, ap, ◌∙◌}
use Rattle.std.specs.BTreeMap.{is_at}
use Rattle.std.specs.BTreeSet as set
use Rattle.field_values.specs.Names.{FieldNames, names_cmp}
use Rattle.edit_history.proofs.Growing.{seen_more}
use Rattle.edit_history.proofs.undo.push_write.Goals as goal

pub returns-clause-seen : goal.returns-clause-seen
returns-clause-seen c = λ f.
    c.in_ok-insert.ensures.updates.0 f
    ∙ ap (λ (k : FieldNames). cond (is_at (names_cmp k) f) true (set.contains names_cmp c.args.seen.now f)) c.in_ok-copy.ensures
    ∙ seen_more c.args.field f (set.contains names_cmp c.args.seen.now f)
