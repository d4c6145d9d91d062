use Rattle.std.proofs.Common.{◌≡◌, ◌≢◌, ℕ, List, [], length}
use Rattle.command_lines.specs.declared.command.Command.{Command}
use Rattle.command_lines.specs.Forms.{some_texts}
use Rattle.command_lines.specs.Unread.{command_of_unread, HasText}
use Rattle.command_lines.proofs.rule_lines.ids.Given as goal

abbrev pub invariant-ids : goal.invariant-ids
invariant-ids l =
    ((made : List (List ℕ) → Command) → command_of_unread (some_texts [] made) l.fn.words ≡ command_of_unread (some_texts l.ids.items made) l.words)
    × ((l.ids.items ≢ []) × HasText l.fn.words.words)

abbrev pub decreases-ids : goal.decreases-ids
decreases-ids l = length l.words.words
