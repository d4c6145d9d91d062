use Rattle.std.proofs.Common.{subst, arith}
use Rattle.command_lines.specs.declared.command.CommandFault.{CommandFault}
use Rattle.command_lines.specs.Commands.{IsCommandFault, command}
use Rattle.world_lines.proofs.Behind.{word_within}
use Rattle.world_lines.proofs.command.command_behind.Goals as goal

pub overflow_add-result : goal.overflow_add-result
overflow_add-result c =
    omega (
      arith,
      word_within c.first_bad_is_told.ensures c.args.index c.in-Err-BadCommand.word c.in_ok-text.text c.args.rest.now c.in_ok-text.ensures c.requires.short c.requires.index
          (subst (λ (fault : CommandFault). IsCommandFault (command c.in_ok-text.text) fault) c.in-Err-BadCommand.field-0-is c.in-Err-BadCommand.ensures.read),
    )
