use Rattle.std.proofs.Common.{sym}
use Rattle.generated_books.proofs.Numbers.{content_before, content_after}
use Rattle.generated_books.proofs.Results.{as_same}
use Rattle.generated_books.proofs.contents.content_at.Goals as goal

pub returns-then-at-lt15 : goal.returns-then-at-lt15
returns-then-at-lt15 c = as_same c.beginning.result _ _ (sym (content_before c.args.at c.if-at-lt15.true)) c.beginning.ensures

pub returns-else-at-lt15 : goal.returns-else-at-lt15
returns-else-at-lt15 c = as_same c.transaction.result _ _ (sym (content_after c.args.at c.if-at-lt15.false)) c.transaction.ensures
