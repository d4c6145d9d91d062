-- What merging makes of each line, and what it writes.
use Rattle.std.specs.Prelude.{◌≡◌, ℕ, ◌+◌, Bool, false, if◌then◌else◌, List, [], ◌∷◌, ◌++◌, Result, Ok, Err, codes}
use Rattle.std.specs.List.{list_any, flat_map}
use Rattle.std.specs.Result.{is_err}
use Rattle.std.specs.Str.{is_utf8}
use Rattle.std.specs.Fmt.{decimal}
use Rattle.field_merge.specs.declared.message.Message.{Message}
use Rattle.field_merge.specs.declared.line.LineFault.{LineFault}
use Rattle.field_merge.specs.declared.line.LineFault.TheVariants.{Columns as BadColumns, Escape as BadEscape, Stamp as BadStamp, Name as BadName, NoMemory}
use Rattle.field_merge.specs.Latest.{CameFrom, LatestState}
use Rattle.field_merge.specs.Lines.{reading}
use Rattle.field_merge.specs.Log.{join, field_text}
use Rattle.command_lines.specs.Commands.{is_too_long}
use Rattle.budget_top.specs.declared.verdict.Word.{Word}
use Rattle.budget_top.specs.declared.verdict.Word.TheVariants.{Long, Utf8, Columns, Escape, Stamp, Name}
use Rattle.budget_top.specs.Lines.{all_lines}

-- a message, or the word for what is wrong with a line
abbrev pub Verdict : Type 0
Verdict = Result Message Word

-- the word for a fault of a line; no line has a want of memory for its fault
abbrev pub word_of : LineFault → Word
word_of (BadColumns found) = Columns
word_of (BadEscape at) = Escape
word_of (BadStamp found) = Stamp
word_of (BadName found) = Name
word_of NoMemory = Name

-- the verdict of what a line reads as
abbrev pub worded : Result Message LineFault → Verdict
worded (Ok message) = Ok message
worded (Err fault) = Err (word_of fault)

-- the verdict on a line that is short enough
unfoldable pub judged_short : List ℕ → Verdict
judged_short line = if is_utf8 line then worded (reading line) else Err Utf8

-- the verdict on a line: it is too long, or no UTF-8, or what it reads as
abbrev pub judged : List ℕ → Verdict
judged line = if is_too_long line then Err Long else judged_short line

-- what is done with a line of a verdict: the message has come, or the word is told and all stays as it was
abbrev pub Takes : Verdict → Result Unit Word → LatestState → LatestState → Type 0
Takes (Ok m) told old new = (told ≡ Ok tt) × (new.spent ≡ false) × ((ms : List Message) → CameFrom ms old → CameFrom (ms ++ m ∷ []) new)
Takes (Err word) told old new = (told ≡ Err word) × (new ≡ old)

-- the text of a word
abbrev pub word_text : Word → List ℕ
word_text Long = codes "long"
word_text Utf8 = codes "utf8"
word_text Columns = codes "columns"
word_text Escape = codes "escape"
word_text Stamp = codes "stamp"
word_text Name = codes "name"

-- what is written for the line with this number: `bad-line N WORD` where it is no message
abbrev pub bad_line : ℕ → Verdict → List ℕ
bad_line number (Ok message) = []
bad_line number (Err word) = codes "bad-line " ++ (decimal number ++ 32 ∷ (word_text word ++ 10 ∷ []))

-- what is written for lines, the first of which has this number
abbrev pub bad_lines_from : ℕ → List (List ℕ) → List ℕ
bad_lines_from number [] = []
bad_lines_from number (line ∷ lines) = bad_line number (judged line) ++ bad_lines_from (number + 1) lines

-- what is written for lines, which are numbered from 1
abbrev pub bad_lines : List (List ℕ) → List ℕ
bad_lines lines = bad_lines_from 1 lines

-- whether a line is no message
abbrev pub is_bad : List ℕ → Bool
is_bad line = is_err (judged line)

-- whether one of the lines is no message
abbrev pub some_bad : List (List ℕ) → Bool
some_bad lines = list_any is_bad lines

-- the message of a verdict, if it has one
abbrev pub message_in : Verdict → List Message
message_in (Ok message) = message ∷ []
message_in (Err word) = []

-- the messages of lines, in their order
abbrev pub messages_of : List (List ℕ) → List Message
messages_of lines = flat_map (λ line. message_in (judged line)) lines

-- all that merging writes for an input: each bad line, and then the latest message of each field
abbrev pub merge_text : List ℕ → List ℕ
merge_text bytes = bad_lines (all_lines bytes) ++ field_text (join [] (messages_of (all_lines bytes)))
