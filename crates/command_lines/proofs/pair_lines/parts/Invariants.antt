use Rattle.std.proofs.Common.{◌≡◌, ◌≢◌, List, [], length, map}
use Rattle.command_lines.specs.declared.command.Command.{Command}
use Rattle.command_lines.specs.Commands.{share_of}
use Rattle.command_lines.specs.Forms.{Share, some_shares}
use Rattle.command_lines.specs.Unread.{command_of_unread}
use Rattle.command_lines.proofs.pair_lines.parts.Given as goal

abbrev pub invariant-parts : goal.invariant-parts
invariant-parts l =
    ((made : List Share → Command) → command_of_unread (some_shares [] made) l.fn.words ≡ command_of_unread (some_shares (map share_of l.parts.items) made) l.words)
    × (l.parts.items ≢ [])

abbrev pub decreases-parts : goal.decreases-parts
decreases-parts l = length l.words.words
