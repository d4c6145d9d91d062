-- Of the line about statements: its words can be given, and its command is told by them.
use Rattle.std.proofs.Common.{◌≡◌, ℕ, List, ◌⊎◌, refl}
use Rattle.command_lines.specs.Forms.{misfit}
use Rattle.command_lines.specs.Commands.{import_words, statement_lines, words_of_statement_lines, words_of_plan_lines}
use Rattle.command_lines.proofs.Opening.{Opens, open_end, open_word}
use Rattle.command_lines.proofs.Known.{IsKnown, AreKnown, known_in}
use Rattle.command_lines.proofs.PlanLines.{plan_lines_known}

import_opens : Opens import_words
import_opens = open_word _ (λ account. open_word _ (λ statement. open_end _))

statement_lines_are : AreKnown statement_lines
statement_lines_are = (
  record { good = refl; plain = refl; form = tt; goes = import_opens.1; tells = λ account statement. record { same = refl; valid = tt; can = tt } },
  tt,
)

pub statement_lines_known : (name : List ℕ) → (words_of_statement_lines name ≡ misfit) ⊎ IsKnown name (words_of_statement_lines name)
unfolding words_of_statement_lines
statement_lines_known name = known_in statement_lines name (words_of_plan_lines name) statement_lines_are (plan_lines_known name)
