use Rattle.field_values.proofs.NameLemmas.{cut_is}
use Rattle.field_values.proofs.field.Names.of.Goals as goal

pub invariant_of-result : goal.invariant_of-result
invariant_of-result c =
    cut_is _ _ _ _ c.args.dataset.now c.args.row.now c.args.column.now c.in_ok-text.ensures.bytes c.in_ok-push_str.ensures.bytes
    c.in_ok-push_str-2.ensures.bytes c.in_ok-push_str-3.ensures.bytes c.utf8.row c.utf8.column
