use Rattle.book_rows.proofs.Spans.{windows_span_lem}
use Rattle.book_rows.proofs.laws.windows_span.Goals as goal

pub returns : goal.returns
returns c = windows_span_lem
