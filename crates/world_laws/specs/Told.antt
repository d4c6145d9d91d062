-- How the outcomes of events are replied to.
use Rattle.std.specs.Prelude.{◌≡◌, ℕ, ◌^◌, ◌<◌, List, [], ◌∷◌, ◌++◌, map, codes, Some, Ok, Err}
use Rattle.std.specs.Fmt.{decimal}
use Rattle.command_lines.specs.declared.reply.Reply.{Reply}
use Rattle.command_lines.specs.declared.reply.Reply.TheVariants.{Done, Refused}
use Rattle.command_lines.specs.Replies.{refused}
use Rattle.device_core.specs.declared.edit.LineRefusal.{LineRefusal}
use Rattle.sync_world.specs.declared.event.Event.{Event}
use Rattle.sync_world.specs.declared.event.Outcome.{Outcome}
use Rattle.sync_world.specs.declared.event.Outcome.TheVariants.{Wrote, Asked, Served, Took, Stopped, Halted}
use Rattle.sync_world.specs.declared.event.WorldFault.{WorldFault}
use Rattle.sync_world.specs.declared.event.WorldFault.TheVariants.{NoSuchDevice, NoSuchRequest, NoSuchReply, Line, NoMemory}
use Rattle.sync_world.specs.World.{WorldState, stepped}
use Rattle.world_lines.specs.declared.command.WorldCommand.TheVariants.{Happens}
use Rattle.world_lines.specs.Replies.{outcome_reply, fault_reply}
use Rattle.world_lines.specs.Session.{obeyed}

-- the numbers of an outcome have 64 bits
abbrev pub Has64Bits : Outcome → Type 0
Has64Bits (Wrote writes made) = writes < 2 ^ 64
Has64Bits (Asked request) = request < 2 ^ 64
Has64Bits (Served reply messages) = (reply < 2 ^ 64) × (messages < 2 ^ 64)
Has64Bits (Took received) = received < 2 ^ 64
Has64Bits Stopped = Unit {0}
Has64Bits Halted = Unit {0}

-- the reply to each outcome
pub record OutcomesAreWritten : Type 0 where
  -- an edit was so many writes, and made rows with these ids
  pub wrote : (writes : ℕ) (made : List (List ℕ)) → outcome_reply (Wrote writes made) ≡ Done ((codes "writes " ++ decimal writes) ∷ map (λ id. codes "made " ++ id) made)
  -- a request was sent, with this number
  pub asked : (request : ℕ) → outcome_reply (Asked request) ≡ Done ((codes "request " ++ decimal request) ∷ [])
  -- a reply was sent, with this number, with so many messages
  pub served : (reply messages : ℕ) → outcome_reply (Served reply messages) ≡ Done ((codes "reply " ++ (decimal reply ++ (codes " " ++ decimal messages))) ∷ [])
  -- so many messages were new
  pub took : (received : ℕ) → outcome_reply (Took received) ≡ Done ((codes "received " ++ decimal received) ∷ [])
  -- the device stopped, and the server did
  pub stopped : outcome_reply Stopped ≡ Done (codes "stopped" ∷ [])
  pub halted : outcome_reply Halted ≡ Done (codes "halted" ∷ [])

-- the reply to each event that did not happen
pub record FaultsAreWritten : Type 0 where
  -- there is no device, no request and no reply with this number
  pub device : (number : ℕ) → fault_reply (NoSuchDevice number) ≡ Some (Refused 33 (codes "no-such-device") (decimal number))
  pub request : (number : ℕ) → fault_reply (NoSuchRequest number) ≡ Some (Refused 34 (codes "no-such-request") (decimal number))
  pub reply : (number : ℕ) → fault_reply (NoSuchReply number) ≡ Some (Refused 35 (codes "no-such-reply") (decimal number))
  -- the device refuses it, as it refuses a line of its own
  pub line : (refusal : LineRefusal) → fault_reply (Line refusal) ≡ refused refusal
  -- its refusals have other numbers
  pub apart : (refusal : LineRefusal) (number : ℕ) (code detail : List ℕ) → refused refusal ≡ Some (Refused number code detail) → number < 33

-- no device, no request or no reply has the number, which has 64 bits
abbrev pub IsLacking : WorldFault → Type 0
IsLacking (NoSuchDevice number) = number < 2 ^ 64
IsLacking (NoSuchRequest number) = number < 2 ^ 64
IsLacking (NoSuchReply number) = number < 2 ^ 64
IsLacking (Line refusal) = ⊥
IsLacking NoMemory = ⊥

pub record OutcomesAreTold : Type 0 where
  pub outcomes : OutcomesAreWritten
  pub faults : FaultsAreWritten
  -- different outcomes have different replies, and so have different numbers that are lacking
  pub different : (a b : Outcome) → Has64Bits a → Has64Bits b → outcome_reply a ≡ outcome_reply b → a ≡ b
  pub lacking : (a b : WorldFault) → IsLacking a → IsLacking b → fault_reply a ≡ fault_reply b → a ≡ b
  -- what happened is told of the outcome, and what did not of the fault
  pub happened : (w v : WorldState) (e : Event) (outcome : Outcome) → stepped w e ≡ Ok (v, outcome) → obeyed w (Happens e) ≡ (v, outcome_reply outcome)
  pub prevented : (w : WorldState) (e : Event) (fault : WorldFault) (r : Reply) → stepped w e ≡ Err fault → fault_reply fault ≡ Some r → obeyed w (Happens e) ≡ (w, r)
