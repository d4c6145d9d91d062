use Rattle.schedules.proofs.Amounts.{terms_hold}
use Rattle.book_edits.proofs.Lists.{on_value}
use Rattle.schedules.proofs.ValidWrites.{writes_valid}
use Rattle.schedules.proofs.making.schedule_writes.Goals as goal

pub returns-clause-valid : goal.returns-clause-valid
returns-clause-valid c =
    on_value c.make.result
    (λ ws same. writes_valid c.args.book.now.rows c.names.ensures c.args.edit.now ws.items (terms_hold c.args.book.now.rows) same) c.make.ensures.ok
