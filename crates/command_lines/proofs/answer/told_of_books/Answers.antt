use Rattle.std.proofs.Common.{◌≡◌, IfOk, sym, subst}
use Rattle.book_rows.specs.Book.{BookState}
use Rattle.envelope_cells.specs.Parts.{AreSums}
use Rattle.command_lines.specs.Readings.{book_answer}
use Rattle.command_lines.proofs.answer.told_of_books.Goals as goal

pub book_reply-requires-clause-sums : goal.book_reply-requires-clause-sums
book_reply-requires-clause-sums c = subst (λ (b : BookState). AreSums c.sums.result.now b.rows) (sym c.book.ensures) c.sums.ensures

pub returns : goal.returns
returns c = subst (λ (b : BookState). IfOk c.book_reply.result (λ r. r ≡ book_answer b.rows c.args.command.now)) c.book.ensures c.book_reply.ensures
