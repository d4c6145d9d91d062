use Rattle.book_edits.proofs.Lists.{on_value}
use Rattle.rule_engine.proofs.ValidWrites.{writes_valid}
use Rattle.rule_engine.proofs.making.rule_writes.Goals as goal

pub returns-clause-valid : goal.returns-clause-valid
returns-clause-valid c = on_value c.make.result (λ ws same. writes_valid c.args.book.now.rows c.names.ensures c.args.edit.now ws.items same) c.make.ensures.ok
