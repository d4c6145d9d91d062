-- The line that a command of a world is written as, and that it is read back; and the line that begins a world.
use Rattle.std.specs.Prelude.{◌≡◌, ℕ, ◌+◌, ◌^◌, ◌<◌, ◌≤◌, List, [], ◌∷◌, length, codes, None, Some, Ok}
use Rattle.std.specs.Fmt.{decimal}
use Rattle.std.specs.List.{slice_get}
use Rattle.hybrid_clock.specs.Node.{node_of}
use Rattle.field_merge.specs.Lines.{parts}
use Rattle.field_merge.specs.Messages.{line_of_texts}
use Rattle.command_lines.specs.declared.command.Command.{Command}
use Rattle.command_lines.specs.declared.command.Command.TheVariants.{Edit, Undo, Redo}
use Rattle.command_lines.specs.declared.reply.Reply.TheVariants.{Done, Refused}
use Rattle.command_lines.specs.Commands.{longest_line}
use Rattle.command_lines.specs.Written.{flag_text, command_texts, CanBeWritten}
use Rattle.sync_world.specs.declared.event.Event.TheVariants as events
use Rattle.sync_world.specs.declared.event.WorldEdit.{WorldEdit}
use Rattle.sync_world.specs.declared.event.WorldEdit.TheVariants as edits
use Rattle.sync_world.specs.World.{WorldState, start}
use Rattle.world_lines.specs.declared.command.WorldCommand.{WorldCommand}
use Rattle.world_lines.specs.declared.command.WorldCommand.TheVariants.{Happens, Show, Equal}
use Rattle.world_lines.specs.Lines.{world_command, IsWorldCommand}
use Rattle.world_lines.specs.Session.{answered, obeyed}

-- the command of a device that makes an edit, an undo or a redo
abbrev pub own_command : WorldEdit → Command
own_command (edits.Line edit) = Edit edit
own_command edits.Undo = Undo
own_command edits.Redo = Redo

-- the name of a line and its words, each as a text: numbers in decimal digits, `1` for whole and else `0`, and the words of a device's line at the end
abbrev pub world_texts : WorldCommand → List (List ℕ)
world_texts (Happens (events.Edit device edit reading)) = codes "edit" ∷ decimal device ∷ decimal reading ∷ command_texts (own_command edit)
world_texts (Happens (events.Ask device since)) = codes "ask" ∷ decimal device ∷ since ∷ []
world_texts (Happens (events.Serve request)) = codes "serve" ∷ decimal request ∷ []
world_texts (Happens (events.Take device reply reading)) = codes "take" ∷ decimal device ∷ decimal reply ∷ decimal reading ∷ []
world_texts (Happens (events.Stop device edit reading whole)) = codes "stop" ∷ decimal device ∷ flag_text whole ∷ decimal reading ∷ command_texts (own_command edit)
world_texts (Happens (events.Halt request whole)) = codes "halt" ∷ decimal request ∷ flag_text whole ∷ []
world_texts (Show device command) = codes "show" ∷ decimal device ∷ command_texts command
world_texts (Equal one other) = codes "equal" ∷ decimal one ∷ decimal other ∷ []

-- the line of a command
abbrev pub world_line : WorldCommand → List ℕ
world_line c = line_of_texts (world_texts c)

-- numbers of 32 bits and of 64
abbrev pub Has32Bits : ℕ → Type 0
Has32Bits n = n < 2 ^ 32

abbrev pub Has64Bits : ℕ → Type 0
Has64Bits n = n < 2 ^ 64

-- the words of a line can write what the command holds
abbrev pub CanBeSaid : WorldCommand → Type 0
CanBeSaid (Happens (events.Edit device edit reading)) = Has32Bits device × Has64Bits reading × CanBeWritten (own_command edit)
CanBeSaid (Happens (events.Ask device since)) = Has32Bits device
CanBeSaid (Happens (events.Serve request)) = Has32Bits request
CanBeSaid (Happens (events.Take device reply reading)) = Has32Bits device × Has32Bits reply × Has64Bits reading
CanBeSaid (Happens (events.Stop device edit reading whole)) = Has32Bits device × Has64Bits reading × CanBeWritten (own_command edit)
CanBeSaid (Happens (events.Halt request whole)) = Has32Bits request
CanBeSaid (Show device command) = Has32Bits device × CanBeWritten command
CanBeSaid (Equal one other) = Has32Bits one × Has32Bits other

-- a line is read as the command, and the command is obeyed in a world that has begun
pub record IsReadBack (line : List ℕ) (c : WorldCommand) : Type 0 where
  pub read : world_command (parts line) ≡ Ok c
  pub done : (w : WorldState) → answered (Some w) line ≡ (Some (obeyed w c).0, (obeyed w c).1)

abbrev pub WorldLinesReadBack : Type 0
WorldLinesReadBack = (c : WorldCommand) → IsWorldCommand c → CanBeSaid c → length (world_line c) ≤ longest_line → IsReadBack (world_line c) c

-- ---- the line that begins a world

-- the line that begins a world of so many devices
abbrev pub devices_line : ℕ → List ℕ
devices_line n = line_of_texts (codes "devices" ∷ decimal n ∷ [])

-- so many nodes, each of which is the one that its number names, counted from 1
pub record AreNumbered (n : ℕ) (nodes : List (List ℕ)) : Type 0 where
  pub count : length nodes ≡ n
  pub named : (i : ℕ) (node : List ℕ) → slice_get nodes i ≡ Some node → node_of (decimal (i + 1)) ≡ Ok node

pub record WorldsAreBegun : Type 0 where
  -- where no world has begun, a world of 1 to 16 devices begins
  pub begun : (n : ℕ) → 1 ≤ n → n ≤ 16 → (nodes : List (List ℕ)) × AreNumbered n nodes × (answered None (devices_line n) ≡ (Some (start nodes), Done []))
  -- and one of none, or of more, does not
  pub none : answered None (devices_line 0) ≡ (None, Refused 30 (codes "bad-command") (codes "1"))
  pub more : (n : ℕ) → 16 < n → Has32Bits n → answered None (devices_line n) ≡ (None, Refused 30 (codes "bad-command") (codes "1"))
