use Rattle.std.proofs.Common.{◌∙◌}
use Rattle.dirty_cells.proofs.Months.{all_pending}
use Rattle.dirty_cells.proofs.month.cover_some_months.Goals as goal

pub refresh_some_months-requires-clause-right : goal.refresh_some_months-requires-clause-right
refresh_some_months-requires-clause-right g c = all_pending c.args.book.now.rows c.args.cells.now c.as_slice-list.result.now c.as_slice-marks.result.now c.args.from c.args.to (c.as_slice-list.ensures ∙ c.in_ok-categories.ensures) (c.as_slice-marks.ensures ∙ c.in_ok-marked.ensures) c.requires.empty
