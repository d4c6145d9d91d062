-- Of each line of a session: its words can be given, and its command is told by them.
use Rattle.std.proofs.Common.{◌≡◌, ℕ, List, ◌⊎◌, inl, refl}
use Rattle.command_lines.specs.Forms.{misfit}
use Rattle.command_lines.specs.Commands.{session_lines, words_of_session_lines}
use Rattle.command_lines.proofs.Known.{IsKnown, AreKnown, known_in}

session_lines_are : AreKnown session_lines
session_lines_are = (
  record { good = refl; plain = refl; form = tt; goes = tt; tells = record { same = refl; valid = tt; can = tt } },
  (
    record { good = refl; plain = refl; form = tt; goes = tt; tells = record { same = refl; valid = tt; can = tt } },
    (record { good = refl; plain = refl; form = tt; goes = tt; tells = record { same = refl; valid = tt; can = tt } }, tt),
  ),
)

pub session_lines_known : (name : List ℕ) → (words_of_session_lines name ≡ misfit) ⊎ IsKnown name (words_of_session_lines name)
unfolding words_of_session_lines
session_lines_known name = known_in session_lines name misfit session_lines_are (inl refl)
