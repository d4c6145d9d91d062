use Rattle.std.proofs.Common.{◌++◌, ◌∷◌, [], true, ap, ◌∙◌, codes}
use Rattle.field_values.specs.declared.value.Value.TheVariants.{Text as IsText}
use Rattle.book_rows.specs.declared.write.RowName.TheVariants.{Made}
use Rattle.book_edits.specs.Writing.{flag}
use Rattle.book_edits.proofs.Lists.{on_ok, two_more}
use Rattle.split_transfer.specs.Writing.{tx_write}
use Rattle.split_transfer.proofs.splits.push_parent.Goals as goal

pub returns : goal.returns
returns c =
    let items = c.args.writes.now.items in
    let first = tx_write (Made c.args.at) (codes "isChild") in
    let second = tx_write (Made c.args.at) (codes "parent_id") in
    on_ok c.push_made-2.result
    (λ e. two_more items c.push_made.new.writes.items c.push_made-2.new.writes.items (first (flag true)) (second (IsText c.args.id.now))
    (c.in_ok-push_made.ensures ∙ ap (λ v. items ++ first v ∷ []) c.flag.ensures)
    (e ∙ ap (λ v. c.push_made.new.writes.items ++ second v ∷ []) c.in_ok-text.ensures))
    c.push_made-2.ensures
