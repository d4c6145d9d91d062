-- The text of a word that was read.
use Rattle.std.specs.Prelude.{ℕ, List}
use Rattle.command_lines.specs.declared.words.Held.{Held}
use Rattle.command_lines.specs.declared.words.Held.TheVariants.{Lent, Owned}

-- the text that is lent from the line, or that was unescaped
abbrev pub text_in : Held → List ℕ
text_in (Lent text) = text.now
text_in (Owned text) = text
