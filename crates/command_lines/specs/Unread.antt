-- The words of a line that are still to be read.
use Rattle.std.specs.Prelude.{◌≡◌, ℕ, List, [], ◌∷◌, Bool, true, false, Option, None, Some, Result}
use Rattle.std.specs.List.{AllByRecursion}
use Rattle.field_merge.specs.Escapes.{bad_escape, has_backslash}
use Rattle.field_merge.specs.Lines.{parts}
use Rattle.command_lines.specs.declared.command.Command.{Command}
use Rattle.command_lines.specs.declared.command.CommandFault.{CommandFault}
use Rattle.command_lines.specs.declared.command.CommandFault.TheVariants.{BadCommand, NoMemory}
use Rattle.command_lines.specs.Forms.{Wanted, no_more, misfit, command_of}
use Rattle.command_lines.specs.Commands.{line_words}

-- the words, and the index of the word before them
pub record UnreadWords : Type 0 where
  pub last : ℕ
  pub words : List (List ℕ)

-- the words of what is left of a line, if anything is left
abbrev pub words_of : Option (List ℕ) → List (List ℕ)
words_of None = []
words_of (Some text) = parts text

-- where words are plain, none of them has a backslash
abbrev pub ArePlainWords : Bool → List (List ℕ) → Type 0
ArePlainWords is_plain words = is_plain ≡ true → AllByRecursion (λ w. has_backslash w ≡ false) words

-- the command of the words that are still to be read, where a line wants these
abbrev pub command_of_unread : Wanted → UnreadWords → Result Command ℕ
command_of_unread wanted unread = command_of wanted unread.last unread.words

-- a word is left, and it has no bad escape: so its text can be read, which takes memory
abbrev pub HasText : List (List ℕ) → Type 0
HasText [] = ⊥
HasText (w ∷ ws) = bad_escape w ≡ None

-- a text is read where a line wants this of the words
abbrev pub ReadsText : Wanted → List (List ℕ) → Type 0
ReadsText misfit words = ⊥
ReadsText (no_more command) words = ⊥
ReadsText wanted words = HasText words

-- memory runs out only where a text is read
abbrev pub IsFaultOf : Wanted → UnreadWords → CommandFault → Type 0
IsFaultOf wanted unread (BadCommand index) = Unit {0}
IsFaultOf wanted unread NoMemory = ReadsText wanted unread.words

-- a text is read of these words of a line: the first names a line that wants words, and the second has a text
abbrev pub ReadsTextIn : List (List ℕ) → Type 0
ReadsTextIn [] = ⊥
ReadsTextIn (name ∷ ws) = ReadsText (line_words name) ws
