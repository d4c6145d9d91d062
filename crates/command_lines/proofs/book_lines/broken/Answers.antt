use Rattle.command_lines.proofs.WordLemmas.{at_exit}
use Rattle.command_lines.proofs.book_lines.broken.Goals as goal

pub returns-in_err-end-clause-read : goal.returns-in_err-end-clause-read
returns-in_err-end-clause-read c = at_exit _ c.from_residual.result c.in_err-end.field-0.0 c.from_residual.ensures.1 (c.in_err-end.ensures.err _)
