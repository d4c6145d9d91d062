use Rattle.split_transfer.specs.declared.edit.TxChange.TheVariants.{Schedule}
use Rattle.command_lines.specs.Commands.{change}
use Rattle.command_lines.proofs.pair_lines.schedule_change.Goals as goal

pub returns-in-Err-clause-err : goal.returns-in-Err-clause-err
returns-in-Err-clause-err c = λ id. c.in-Err.ensures.err (λ v. change (Schedule v) id)
