use Rattle.split_transfer.specs.declared.edit.TxChange.TheVariants.{Cleared}
use Rattle.command_lines.specs.Commands.{change}
use Rattle.command_lines.proofs.pair_lines.cleared_change.Goals as goal

pub returns-in-Err-clause-err : goal.returns-in-Err-clause-err
returns-in-Err-clause-err c = λ id. c.in-Err.ensures.err (λ v. change (Cleared v) id)
