-- What a line makes of a world, and its reply.
use Rattle.std.specs.Prelude.{◌≡◌, ◌≤◌, ℕ, length, zero, suc, List, [], ◌∷◌, ◌++◌, map, Bool, false, if◌then◌else◌, ◌==◌, Option, None, Some, Result, Ok, Err}
use Rattle.std.specs.Cmp.Lexicographic.{pointwise}
use Rattle.std.specs.Fmt.{decimal}
use Rattle.hybrid_clock.specs.Node.{padded}
use Rattle.field_merge.specs.declared.message.Message.{Message}
use Rattle.field_merge.specs.Lines.{parts}
use Rattle.field_merge.specs.Messages.{message_line}
use Rattle.device_core.specs.Device.{State}
use Rattle.command_lines.specs.declared.command.Command.{Command}
use Rattle.command_lines.specs.declared.command.CommandFault.{CommandFault}
use Rattle.command_lines.specs.declared.command.CommandFault.TheVariants.{BadCommand, NoMemory}
use Rattle.command_lines.specs.declared.reply.Reply.{Reply}
use Rattle.command_lines.specs.declared.reply.Reply.TheVariants.{Done}
use Rattle.command_lines.specs.Commands.{is_too_long}
use Rattle.command_lines.specs.Replies.{faulty}
use Rattle.sync_world.specs.Whole.{WorldModel}
use Rattle.sync_world.specs.World.{WorldState, Answer, start, device_of, stepped}
use Rattle.world_lines.specs.declared.command.WorldCommand.{WorldCommand}
use Rattle.world_lines.specs.declared.command.WorldCommand.TheVariants.{Happens, Show, Equal}
use Rattle.world_lines.specs.Lines.{world_command, begins, count_line}
use Rattle.world_lines.specs.Replies.{outcome_reply, fault_reply, no_device, shown, compared}

-- the node of a device with a number: its decimal text, with `0` on its left up to sixteen characters
abbrev pub node_numbered : ℕ → List ℕ
node_numbered number = padded (decimal number)

-- the nodes of so many devices, which are numbered from 1
abbrev pub first_nodes : ℕ → List (List ℕ)
first_nodes zero = []
first_nodes (suc count) = first_nodes count ++ node_numbered (suc count) ∷ []

-- whether two sets have the same message lines; a message and its line are one to one
abbrev pub lines_of : List Message → List (List ℕ)
lines_of ms = map message_line ms

abbrev pub have_same_lines : List Message → List Message → Bool
have_same_lines ms ns = pointwise (pointwise ◌==◌) (lines_of ms) (lines_of ns)

-- a want of memory would have no reply, and no event is refused for that by what it says
abbrev pub reply_or_none : Option Reply → Reply
reply_or_none None = Done []
reply_or_none (Some reply) = reply

-- what an event leaves, with its reply; a refused one leaves all as it is
abbrev pub settled : WorldState → Answer → WorldState × Reply
settled w (Ok p) = (p.0, outcome_reply p.1)
settled w (Err fault) = (w, reply_or_none (fault_reply fault))

-- what a device answers, where there is one
abbrev pub show_at : ℕ → Command → Option State → Reply
show_at number command None = no_device number
show_at number command (Some s) = shown s.messages command

-- whether two devices have the same messages, where there are both
abbrev pub compare_at : ℕ → ℕ → Option State → Option State → Reply
compare_at one other None t = no_device one
compare_at one other (Some s) None = no_device other
compare_at one other (Some s) (Some t) = compared (have_same_lines s.messages t.messages)

-- a command in a world that has begun
abbrev pub obeyed : WorldState → WorldCommand → WorldState × Reply
obeyed w (Happens event) = settled w (stepped w event)
obeyed w (Show device command) = (w, show_at device command (device_of w.devices device))
obeyed w (Equal one other) = (w, compare_at one other (device_of w.devices one) (device_of w.devices other))

-- the words of a line in it. None of these begins a world, so no second one begins
abbrev pub obeyed_if_read : WorldState → Result WorldCommand CommandFault → WorldState × Reply
obeyed_if_read w (Ok command) = obeyed w command
obeyed_if_read w (Err (BadCommand index)) = (w, faulty index)
obeyed_if_read w (Err NoMemory) = (w, Done [])

abbrev pub played : WorldState → List (List ℕ) → WorldState × Reply
played w words = obeyed_if_read w (world_command words)

-- a line that begins a world of so many devices
abbrev pub begun_by : Result ℕ CommandFault → Option WorldState × Reply
begun_by (Ok count) = (Some (start (first_nodes count)), Done [])
begun_by (Err (BadCommand index)) = (None, faulty index)
begun_by (Err NoMemory) = (None, Done [])

-- before a world has begun, only a line that begins one is looked at
abbrev pub opened : List (List ℕ) → Option WorldState × Reply
opened words = if begins words then begun_by (count_line words) else (None, faulty 0)

abbrev pub with_words : Option WorldState → List (List ℕ) → Option WorldState × Reply
with_words None words = opened words
with_words (Some w) words = (Some (played w words).0, (played w words).1)

-- what a line makes of a world, if one has begun, and its reply
abbrev pub answered : Option WorldState → List ℕ → Option WorldState × Reply
answered world line = if is_too_long line then (world, faulty 0) else with_words world (parts line)

-- a session: the world that has begun in it, if one has, and whether a want of memory has spoilt it
pub record SessionState : Type 0 where
  pub world : Option WorldState
  pub spent : Bool

-- the world that has begun can go on, and no more than so many requests and as many replies were sent in it
pub record IsPlayed (n : ℕ) (w : WorldModel) : Type 0 where
  pub live : w.spent ≡ false
  pub asked : length w.world.requests ≤ n
  pub sent : length w.world.replies ≤ n

abbrev pub CanGoOn : ℕ → Option WorldModel → Type 0
CanGoOn n None = Unit {0}
CanGoOn n (Some w) = IsPlayed n w

-- the state of a world, if one has begun
abbrev pub state_of : Option WorldModel → Option WorldState
state_of None = None
state_of (Some w) = Some w.world
