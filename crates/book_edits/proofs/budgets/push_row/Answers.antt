use Rattle.std.proofs.Common.{◌≡◌, ◌++◌, ◌∷◌, [], ap, sym, ◌∙◌, if◌then◌else◌}
use Rattle.std.specs.Prelude.{codes}
use lib.IntN.{pos}
use Rattle.field_values.specs.declared.value.Value.TheVariants.{Number, Text as IsText}
use Rattle.book_rows.specs.declared.write.RowName.TheVariants.{Given}
use Rattle.book_rows.specs.Ids.{budget_id}
use Rattle.book_edits.specs.Writing.{write}
use Rattle.book_edits.specs.Budgets.{made_unless}
use Rattle.book_edits.proofs.Lists.{on_ok, two_more}
use Rattle.book_edits.proofs.budgets.push_row.Goals as goal

pub returns : goal.returns
returns c =
    let items = c.args.writes.now.items in
    let dataset = c.args.dataset.now in
    let month = c.args.month in
    let category = c.args.category.now in
    let id = budget_id category month in
    let row : c.in_ok-copy.field-0 ≡ id = c.in_ok-copy.ensures ∙ c.requires in
    let first = write dataset (Given id) (codes "month") (Number (pos month)) in
    let second = write dataset (Given id) (codes "category") (IsText category) in
    let made : made_unless c.args.there dataset category month ≡ first ∷ second ∷ [] = ap (λ b. if b then [] else first ∷ second ∷ []) c.if-there.false in
    on_ok c.push-2.result
    (λ e. two_more items c.push.new.writes.items c.push-2.new.writes.items first second
    (c.in_ok-push.ensures
    ∙ ap (λ k. items ++ write dataset (Given k) (codes "month") c.number-month.result ∷ []) row
    ∙ ap (λ v. items ++ write dataset (Given id) (codes "month") v ∷ []) c.number-month.ensures)
    (e
    ∙ ap (λ k. c.push.new.writes.items ++ write dataset (Given k) (codes "category") c.in_ok-category.category ∷ []) row
    ∙ ap (λ v. c.push.new.writes.items ++ write dataset (Given id) (codes "category") v ∷ []) c.in_ok-category.ensures)
    ∙ ap (λ l. items ++ l) (sym made))
    c.push-2.ensures
