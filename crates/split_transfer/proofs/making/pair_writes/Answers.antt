use Rattle.split_transfer.proofs.ValidWrites.{both_values, writes_valid}
use Rattle.split_transfer.proofs.making.pair_writes.Goals as goal

pub returns-clause-valid : goal.returns-clause-valid
returns-clause-valid c = both_values c.make.result (λ ws dated same. writes_valid c.args.book.now.rows c.names.ensures c.args.edit.now ws.items dated same) c.make.ensures.dated c.make.ensures.ok
