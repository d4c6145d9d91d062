-- The lines of a world, and the command that the words of a line make.
use Rattle.std.specs.Prelude.{ℕ, ◌+◌, ◌==◌, ◌&&◌, nat_le, List, [], ◌∷◌, drop, length, Bool, true, false, not, Result, Ok, Err, codes, if◌then◌else◌}
use Rattle.std.specs.Str.{bytes_eq}
use Rattle.command_lines.specs.declared.command.Command.{Command}
use Rattle.command_lines.specs.declared.command.Command.TheVariants as commands
use Rattle.command_lines.specs.declared.command.CommandFault.{CommandFault}
use Rattle.command_lines.specs.declared.command.CommandFault.TheVariants.{BadCommand}
use Rattle.command_lines.specs.Commands.{of_words}
use Rattle.command_lines.specs.Readings.{IsReading}
use Rattle.sync_world.specs.declared.event.Event.TheVariants as events
use Rattle.sync_world.specs.declared.event.WorldEdit.{WorldEdit}
use Rattle.sync_world.specs.declared.event.WorldEdit.TheVariants as edits
use Rattle.sync_world.specs.Members.{IsEvent}
use Rattle.world_lines.specs.declared.command.WorldCommand.{WorldCommand}
use Rattle.world_lines.specs.declared.command.WorldCommand.TheVariants.{Happens, Show, Equal}
use Rattle.world_lines.specs.Words.{◌>>=◌, word_at, number_at, long_number_at, flag_at, text_at}

-- no word stands behind so many
abbrev pub only : {A : Type 0} → ℕ → List (List ℕ) → A → Result A CommandFault
only count words value = if length words == count then Ok value else Err (BadCommand count)

-- ---- a line of a device among the words

-- its words stand from an index on, and its faults are told by their index in the whole line
abbrev pub placed : ℕ → Result Command ℕ → Result Command CommandFault
placed index (Ok command) = Ok command
placed index (Err part) = Err (BadCommand (part + index))

-- a line that no device of a world takes, whatever its words are
abbrev pub is_barred : List ℕ → Bool
is_barred name = if bytes_eq name (codes "sync") then true else bytes_eq name (codes "receive")

-- the names of the lines that only read
abbrev pub questions : List (List ℕ)
questions =
    codes "fields" ∷ codes "messages" ∷ codes "value" ∷ codes "trie" ∷ codes "balance" ∷ codes "register" ∷ codes "cell" ∷ codes "sheet"
    ∷ codes "broken" ∷ codes "schedule-status" ∷ codes "goals" ∷ codes "track-cell" ∷ codes "track-sheet" ∷ []

abbrev pub is_one_of : List (List ℕ) → List ℕ → Bool
is_one_of [] name = false
is_one_of (n ∷ ns) name = if bytes_eq name n then true else is_one_of ns name

-- which lines are wanted: those that only read, or those that do not
abbrev pub is_wanted : Bool → List ℕ → Bool
is_wanted true name = is_one_of questions name
is_wanted false name = not (is_one_of questions name)

abbrev pub command_at : List (List ℕ) → ℕ → Bool → Result Command CommandFault
command_at words index reads = do
  name ← word_at words index
  if is_barred name then Err (BadCommand 0) else (if is_wanted reads name then placed index (of_words (drop index words)) else Err (BadCommand index))

-- an edit, an undo or a redo
abbrev pub edit_of : ℕ → Command → Result WorldEdit CommandFault
edit_of index (commands.Edit edit) = Ok (edits.Line edit)
edit_of index commands.Undo = Ok edits.Undo
edit_of index commands.Redo = Ok edits.Redo
edit_of index command = Err (BadCommand index)

abbrev pub edit_at : List (List ℕ) → ℕ → Result WorldEdit CommandFault
edit_at words index = do
  command ← command_at words index false
  edit_of index command

-- a line that only reads
abbrev pub question_of : ℕ → Command → Result Command CommandFault
question_of index (commands.Edit edit) = Err (BadCommand index)
question_of index commands.Undo = Err (BadCommand index)
question_of index commands.Redo = Err (BadCommand index)
question_of index (commands.Receive message) = Err (BadCommand index)
question_of index commands.Sync = Err (BadCommand index)
question_of index command = Ok command

abbrev pub question_at : List (List ℕ) → ℕ → Result Command CommandFault
question_at words index = do
  command ← command_at words index true
  question_of index command

-- ---- the lines

-- `devices N`, which begins a world: of how many devices, 1 to 16
abbrev pub count_line : List (List ℕ) → Result ℕ CommandFault
count_line words = do
  count ← number_at words 1
  if nat_le 1 count && nat_le count 16 then only 2 words count else Err (BadCommand 1)

-- whether it is that line
abbrev pub begins : List (List ℕ) → Bool
begins [] = false
begins (name ∷ words) = bytes_eq name (codes "devices")

-- `edit I READING LINE`
abbrev pub edit_line : List (List ℕ) → Result WorldCommand CommandFault
edit_line words = do
  device ← number_at words 1
  reading ← long_number_at words 2
  edit ← edit_at words 3
  Ok (Happens (events.Edit device edit reading))

-- `ask I SINCE`
abbrev pub ask_line : List (List ℕ) → Result WorldCommand CommandFault
ask_line words = do
  device ← number_at words 1
  since ← text_at words 2
  only 3 words (Happens (events.Ask device since))

-- `serve K`
abbrev pub serve_line : List (List ℕ) → Result WorldCommand CommandFault
serve_line words = do
  request ← number_at words 1
  only 2 words (Happens (events.Serve request))

-- `take I K READING`
abbrev pub take_line : List (List ℕ) → Result WorldCommand CommandFault
take_line words = do
  device ← number_at words 1
  reply ← number_at words 2
  reading ← long_number_at words 3
  only 4 words (Happens (events.Take device reply reading))

-- `stop I WHOLE READING LINE`
abbrev pub stop_line : List (List ℕ) → Result WorldCommand CommandFault
stop_line words = do
  device ← number_at words 1
  whole ← flag_at words 2
  reading ← long_number_at words 3
  edit ← edit_at words 4
  Ok (Happens (events.Stop device edit reading whole))

-- `halt K WHOLE`
abbrev pub halt_line : List (List ℕ) → Result WorldCommand CommandFault
halt_line words = do
  request ← number_at words 1
  whole ← flag_at words 2
  only 3 words (Happens (events.Halt request whole))

-- `show I LINE`
abbrev pub show_line : List (List ℕ) → Result WorldCommand CommandFault
show_line words = do
  device ← number_at words 1
  command ← question_at words 2
  Ok (Show device command)

-- `equal I J`
abbrev pub equal_line : List (List ℕ) → Result WorldCommand CommandFault
equal_line words = do
  one ← number_at words 1
  other ← number_at words 2
  only 3 words (Equal one other)

-- the line that the first word names, in a world that has begun
abbrev pub line_named : List ℕ → List (List ℕ) → Result WorldCommand CommandFault
line_named name words =
    if bytes_eq name (codes "edit") then edit_line words
    else (if bytes_eq name (codes "ask") then ask_line words
    else (if bytes_eq name (codes "serve") then serve_line words
    else (if bytes_eq name (codes "take") then take_line words
    else (if bytes_eq name (codes "stop") then stop_line words
    else (if bytes_eq name (codes "halt") then halt_line words
    else (if bytes_eq name (codes "show") then show_line words
    else (if bytes_eq name (codes "equal") then equal_line words
    else Err (BadCommand 0))))))))

abbrev pub world_command : List (List ℕ) → Result WorldCommand CommandFault
world_command [] = Err (BadCommand 0)
world_command (name ∷ words) = line_named name (name ∷ words)

-- the values of a command are valid
abbrev pub IsWorldCommand : WorldCommand → Type 0
IsWorldCommand (Happens event) = IsEvent event
IsWorldCommand (Show device command) = IsReading command
IsWorldCommand (Equal one other) = Unit {0}
