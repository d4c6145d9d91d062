-- The replies to the lines of a world.
use Rattle.std.specs.Prelude.{ℕ, List, [], ◌∷◌, ◌++◌, ◌==◌, if◌then◌else◌, codes, Bool, true, false, Option, None, Some}
use Rattle.std.specs.Fmt.{decimal}
use Rattle.field_merge.specs.declared.message.Message.{Message}
use Rattle.command_lines.specs.declared.command.Command.{Command}
use Rattle.command_lines.specs.declared.reply.Reply.{Reply}
use Rattle.command_lines.specs.declared.reply.Reply.TheVariants.{Done, Refused}
use Rattle.command_lines.specs.Readings.{answer}
use Rattle.command_lines.specs.Replies.{wrote, faulty, refused}
use Rattle.sync_world.specs.declared.event.Outcome.{Outcome}
use Rattle.sync_world.specs.declared.event.Outcome.TheVariants as outcomes
use Rattle.sync_world.specs.declared.event.WorldFault.{WorldFault}
use Rattle.sync_world.specs.declared.event.WorldFault.TheVariants as faults

-- ---- what an event came to

abbrev pub one_line : List ℕ → Reply
one_line line = Done (line ∷ [])

abbrev pub outcome_reply : Outcome → Reply
outcome_reply (outcomes.Wrote writes made) = wrote writes made
outcome_reply (outcomes.Asked request) = one_line (codes "request " ++ decimal request)
outcome_reply (outcomes.Served reply messages) = one_line (codes "reply " ++ decimal reply ++ 32 ∷ decimal messages)
outcome_reply (outcomes.Took received) = one_line (codes "received " ++ decimal received)
outcome_reply outcomes.Stopped = one_line (codes "stopped")
outcome_reply outcomes.Halted = one_line (codes "halted")

-- ---- why it didn't happen

abbrev pub no_device : ℕ → Reply
no_device number = Refused 33 (codes "no-such-device") (decimal number)

abbrev pub no_request : ℕ → Reply
no_request number = Refused 34 (codes "no-such-request") (decimal number)

abbrev pub no_reply : ℕ → Reply
no_reply number = Refused 35 (codes "no-such-reply") (decimal number)

-- a want of memory has no reply
abbrev pub fault_reply : WorldFault → Option Reply
fault_reply (faults.NoSuchDevice device) = Some (no_device device)
fault_reply (faults.NoSuchRequest request) = Some (no_request request)
fault_reply (faults.NoSuchReply reply) = Some (no_reply reply)
fault_reply (faults.Line refusal) = refused refusal
fault_reply faults.NoMemory = None

-- ---- what is asked of a device

-- the name of a cell stands two words further on than in a device's line
abbrev pub shown_reply : Reply → Reply
shown_reply (Done lines) = Done lines
shown_reply (Refused number code detail) = if number == 30 then faulty 4 else Refused number code detail

abbrev pub shown : List Message → Command → Reply
shown ms command = shown_reply (answer ms command)

-- ---- whether two sets are equal

abbrev pub compared : Bool → Reply
compared true = one_line (codes "equal 1")
compared false = one_line (codes "equal 0")
