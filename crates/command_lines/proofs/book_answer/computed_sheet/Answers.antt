use Rattle.std.proofs.Common.{◌≡◌, IfOk, subst}
use Rattle.book_rows.specs.Book.{BookState}
use Rattle.envelope_cells.specs.BudgetOf.{budget_of}
use Rattle.envelope_cells.specs.SheetOf.{sheet_of}
use Rattle.command_lines.proofs.book_answer.computed_sheet.Goals as goal

pub returns : goal.returns
returns c = subst (λ (b : BookState). IfOk c.sheet.result (λ s. s.cells ≡ sheet_of (budget_of b.rows) c.args.month)) c.book.ensures c.sheet.ensures.cells
