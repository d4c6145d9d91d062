use Rattle.std.proofs.Common.{length, ap, arith}
use Rattle.command_lines.proofs.WordLemmas.{few_words}
use Rattle.command_lines.proofs.command.read_command.Goals as goal

pub new-words-requires : goal.new-words-requires
new-words-requires c =
    few_words c.as_str.result.now c.cut_word.result.0.now _ c.cut_word.ensures
    (omega (arith, ap length c.as_str.ensures, ap length c.bytes.ensures.value))
