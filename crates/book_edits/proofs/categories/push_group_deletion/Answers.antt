use Rattle.std.proofs.Common.{◌≡◌, ◌++◌, ◌∷◌, [], ap, ◌∙◌}
use Rattle.std.specs.Prelude.{codes}
use Rattle.book_rows.specs.declared.write.RowName.TheVariants.{Given}
use Rattle.book_edits.specs.Writing.{write}
use Rattle.book_edits.specs.Categories.{group_deletion}
use Rattle.book_edits.proofs.Lists.{on_ok}
use Rattle.book_edits.proofs.categories.push_group_deletion.Goals as goal

pub returns : goal.returns
returns c =
    let is : write (codes "category_groups") (Given c.in_ok-copy.field-0) (codes "tombstone") c.flag-deleted.result ≡ group_deletion c.args.id.now =
    ap (λ k. write (codes "category_groups") (Given k) (codes "tombstone") c.flag-deleted.result) c.in_ok-copy.ensures
    ∙ ap (write (codes "category_groups") (Given c.args.id.now) (codes "tombstone")) c.flag-deleted.ensures in
    on_ok c.push.result (λ e. e ∙ ap (λ w. c.args.writes.now.items ++ w ∷ []) is) c.push.ensures
