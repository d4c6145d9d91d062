-- What the index is that is told of a line that is no command.
use Rattle.std.specs.Prelude.{◌≡◌, ◌<◌, ◌≤◌, ◌+◌, ℕ, List, ◌++◌, length, map, take, Ok, Err}
use Rattle.field_merge.specs.Escapes.{escaped}
use Rattle.command_lines.specs.declared.command.Command.{Command}
use Rattle.command_lines.specs.Commands.{of_words}

-- The index of the first word that is not of its form, or, behind the last word, of one that is missing.
-- With some texts as the words behind them, the words before the index are a command.
-- With the word at the index, and whatever stands behind it, they are none.
pub record IsFirstBadWord (words : List (List ℕ)) (index : ℕ) : Type 0 where
  pub within : index ≤ length words
  pub before : (texts : List (List ℕ)) × (c : Command) × (of_words (take index words ++ map escaped texts) ≡ Ok c)
  pub at : (more : List (List ℕ)) (c : Command) → index < length words → of_words (take (index + 1) words ++ more) ≡ Ok c → ⊥

-- the index that is told of words that are no command is this one
abbrev pub FirstBadIsTold : Type 0
FirstBadIsTold = (words : List (List ℕ)) (index : ℕ) → of_words words ≡ Err index → IsFirstBadWord words index
