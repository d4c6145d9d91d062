use Rattle.std.proofs.Common.{◌++◌, ◌∷◌, [], ap, ◌∙◌}
use Rattle.std.specs.Prelude.{codes}
use Rattle.field_values.specs.declared.value.Value.TheVariants.{Text as IsText}
use Rattle.book_edits.specs.Writing.{write, flag}
use Rattle.book_edits.specs.Categories.{takes_income}
use Rattle.book_edits.proofs.Lists.{on_ok, two_more}
use Rattle.book_edits.proofs.categories.push_placed.Goals as goal

pub returns : goal.returns
returns c =
    let items = c.args.writes.now.items in
    let row = c.args.row.now in
    let group = c.args.group.now in
    let first = write (codes "categories") row (codes "cat_group") in
    let second = write (codes "categories") row (codes "is_income") in
    let income = flag (takes_income c.args.book.now.rows group) in
    on_ok c.push-2.result
    (λ e. two_more items c.push.new.writes.items c.push-2.new.writes.items (first (IsText group)) (second income)
    (c.in_ok-push.ensures ∙ ap (λ v. items ++ first v ∷ []) c.in_ok-text.ensures)
    (e ∙ ap (λ v. c.push.new.writes.items ++ second v ∷ []) (c.flag-income.ensures ∙ ap flag c.takes_income.ensures)))
    c.push-2.ensures
