use Rattle.split_transfer.proofs.ValidWrites.{both_values}
use Rattle.bank_import.proofs.Written.{import_valid}
use Rattle.bank_import.proofs.making.import_writes.Goals as goal

pub returns-clause-valid : goal.returns-clause-valid
returns-clause-valid c = both_values c.make.result (λ ws numbers same. import_valid c.args.book.now.rows c.names.ensures c.args.edit.now ws.items numbers same) c.make.ensures.numbers c.make.ensures.ok
