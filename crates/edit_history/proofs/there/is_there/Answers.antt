use Rattle.std.proofs.Common.{ap₂, ◌∙◌}
use Rattle.finite_sums.specs.Maps.{Text}
use Rattle.book_rows.specs.Columns.{dataset_of}
use Rattle.book_rows.specs.Rows.{is_row}
use Rattle.book_rows.proofs.Following.{row_there}
use Rattle.edit_history.proofs.there.is_there.Goals as goal

pub returns : goal.returns
returns c = λ values are.
    c.has_row.ensures
    ∙ ap₂ (λ (d r : Text). is_row c.args.book.now.rows (dataset_of d) r) c.dataset.ensures.value (c.in_ok-id.ensures ∙ c.row.ensures.value)
    ∙ row_there values c.args.book.now.rows c.args.field.now are
