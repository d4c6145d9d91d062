-- What a device makes of a line.
use Rattle.std.specs.Prelude.{ℕ, List, [], ◌∷◌, Bool, true, false, if◌then◌else◌, Option, None, Some, Result, Ok, Err}
use Rattle.std.specs.Str.{is_utf8}
use Rattle.device_core.specs.declared.edit.LineRefusal.{LineRefusal}
use Rattle.device_core.specs.Device.{State, Accepted, edited, undone, redone, received}
use Rattle.command_lines.specs.declared.command.Command.{Command}
use Rattle.command_lines.specs.declared.command.Command.TheVariants.{Edit, Undo, Redo, Receive}
use Rattle.command_lines.specs.declared.reply.Reply.{Reply}
use Rattle.command_lines.specs.declared.reply.Reply.TheVariants.{Done, Refused}
use Rattle.command_lines.specs.Commands.{command}
use Rattle.command_lines.specs.Readings.{answer}
use Rattle.command_lines.specs.Replies.{wrote, added, faulty, refused}

-- the command of a line, or the index of the first word that is not of its form: 0 for a line that is no UTF-8
abbrev pub asked : List ℕ → Result Command ℕ
asked line = if is_utf8 line then command line else Err 0

-- the same of what is kept of a line: nothing of one that is too long
abbrev pub asked_kept_line : Option (List ℕ) → Result Command ℕ
asked_kept_line None = Err 0
asked_kept_line (Some line) = asked line

-- the reply to a refusal. A want of memory would have none, and no line is refused for that by what it says
abbrev pub reply_to_refusal : Option Reply → Reply
reply_to_refusal None = Done []
reply_to_refusal (Some reply) = reply

-- what an accepted line leaves, with its reply; a refused one leaves all as it is
abbrev pub settled : State → (Accepted → Reply) → Result Accepted LineRefusal → State × Reply
settled s reply (Ok accepted) = (accepted.state, reply accepted)
settled s reply (Err refusal) = (s, reply_to_refusal (refused refusal))

-- the reply to an edit, an undo or a redo that was accepted
abbrev pub wrote_all : Accepted → Reply
wrote_all accepted = wrote accepted.count accepted.made

-- the reply to messages that were accepted
abbrev pub added_all : Accepted → Reply
added_all accepted = added accepted.count

-- what is made of what a line asks at a reading of the clock, and the reply: an edit is made, the latest one is undone or redone, a message
-- is received, a line that only reads is answered, and one that is no command is refused; of one that syncs `Doing` says it
abbrev pub obeyed : State → ℕ → Result Command ℕ → State × Reply
obeyed s reading (Err part) = (s, faulty part)
obeyed s reading (Ok (Edit edit)) = settled s wrote_all (edited s edit reading)
obeyed s reading (Ok Undo) = settled s wrote_all (undone s reading)
obeyed s reading (Ok Redo) = settled s wrote_all (redone s reading)
obeyed s reading (Ok (Receive message)) = settled s added_all (received s (message ∷ []) reading)
obeyed s reading (Ok command) = (s, answer s.messages command)

-- whether a reply refuses its line
abbrev pub is_refused : Reply → Bool
is_refused (Done lines) = false
is_refused (Refused number code detail) = true
