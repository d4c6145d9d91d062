use Rattle.std.proofs.Common.{◌≡◌, ◌++◌, ◌∷◌, [], ap, ◌∙◌}
use Rattle.std.specs.Prelude.{codes}
use Rattle.book_rows.specs.declared.write.RowName.TheVariants.{Given}
use Rattle.book_edits.specs.Writing.{write}
use Rattle.book_edits.specs.Mappings.{category_mapped}
use Rattle.book_edits.proofs.Lists.{on_ok}
use Rattle.book_edits.proofs.mappings.push_category_mapped.Goals as goal

pub returns : goal.returns
returns c =
    let is : write (codes "category_mapping") (Given c.in_ok-copy.field-0) (codes "transferId") c.in_ok-to.to ≡ category_mapped c.args.to.now c.args.id.now =
    ap (λ k. write (codes "category_mapping") (Given k) (codes "transferId") c.in_ok-to.to) c.in_ok-copy.ensures
    ∙ ap (write (codes "category_mapping") (Given c.args.id.now) (codes "transferId")) c.in_ok-to.ensures in
    on_ok c.push.result (λ e. e ∙ ap (λ w. c.args.writes.now.items ++ w ∷ []) is) c.push.ensures
