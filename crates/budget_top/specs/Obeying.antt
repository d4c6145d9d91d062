-- What a device does at a line, for the law on lines.
use Rattle.std.specs.Prelude.{◌≡◌, ◌≢◌, ◌⊎◌, ◌≤◌, ◌/◌, ◌-◌, ℕ, ℤ, true, false, List, [], ◌∷◌, ◌++◌, length, map, codes, Some, Ok, Err}
use Rattle.std.specs.Str.{is_utf8}
use Rattle.std.specs.Fmt.{decimal, signed_decimal}
use Rattle.hybrid_clock.specs.Stamp.{stamp_text, window}
use Rattle.hybrid_clock.specs.declared.clock.ClockFault.TheVariants.{Beyond}
use Rattle.field_values.specs.declared.value.Value.{Value}
use Rattle.field_merge.specs.declared.message.Message.{Message}
use Rattle.device_core.specs.declared.edit.Edit.{Edit as AnyEdit}
use Rattle.device_core.specs.declared.edit.Edit.TheVariants.{Book}
use Rattle.book_edits.specs.declared.edit.BookEdit.TheVariants.{Set}
use Rattle.device_core.specs.declared.edit.LineRefusal.{LineRefusal}
use Rattle.device_core.specs.declared.edit.LineRefusal.TheVariants.{Clock as OfClock}
use Rattle.device_core.specs.Device.{State, Accepted, IsAhead, edited, undone, redone, received}
use Rattle.device_core.specs.ReadBack.{IsReadBack, AreTakenIn}
use Rattle.device_core.specs.Several.{IsMade}
use Rattle.command_lines.specs.declared.command.Command.{Command}
use Rattle.command_lines.specs.declared.command.Command.TheVariants.{Edit, Undo, Redo, Receive, Sync}
use Rattle.command_lines.specs.declared.reply.Reply.{Reply}
use Rattle.command_lines.specs.declared.reply.Reply.TheVariants.{Done, Refused}
use Rattle.command_lines.specs.Commands.{command}
use Rattle.command_lines.specs.Readings.{answer, IsReading}
use Rattle.command_lines.specs.Replies.{refused}
use Rattle.device_sync.specs.declared.target.Target.{Target}
use Rattle.device_sync.specs.Talk.{Outcome, going_on, agreed, out_of_sync, not_taken, refused as refuses, bad_reply}
use Rattle.budget_top.specs.Doing.{Given, Running, IsWithin, TalksTo}
use Rattle.budget_top.specs.Course.{Input, step}

-- a line says this command
pub record Says (line : List ℕ) (said : Command) : Type 0 where
  pub utf8 : is_utf8 line ≡ true
  pub command : command line ≡ Ok said

-- a line is no command: it is no UTF-8, and its first word is told, or this part of it is the first that is not of its form
abbrev pub IsNone : List ℕ → ℕ → Type 0
IsNone line part = (is_utf8 line ≡ false) × (part ≡ 0) ⊎ (is_utf8 line ≡ true) × (command line ≡ Err part)

-- a line was refused: all is as it was, and the reply, where a refusal has one, is that of this refusal
pub record Refuses (r : Running) (refusal : LineRefusal) (after : Running) (reply : Reply) : Type 0 where
  pub same : after ≡ r
  pub told : (due : Reply) → refused refusal ≡ Some due → reply ≡ due

-- a write was accepted
pub record Writes (r : Running) (dataset row column : List ℕ) (value : Value) (accepted : Accepted) (after : Running) (reply : Reply) : Type 0 where
  pub after_it : after ≡ record r { state = accepted.state }
  pub read_back : IsReadBack r.state dataset row column value accepted
  pub told : reply ≡ Done ((codes "writes " ++ decimal 1) ∷ [])

-- writes were made: the reply tells how many, and the ids that they made for rows
abbrev pub TellsWrites : Accepted → Reply → Type 0
TellsWrites accepted reply = reply ≡ Done ((codes "writes " ++ decimal accepted.count) ∷ map (λ id. codes "made " ++ id) accepted.made)

-- an edit was accepted: it made its writes in the book of the messages
pub record Makes (r : Running) (edit : AnyEdit) (accepted : Accepted) (after : Running) (reply : Reply) : Type 0 where
  pub after_it : after ≡ record r { state = accepted.state }
  pub made : IsMade r.state edit accepted
  pub told : TellsWrites accepted reply

-- an undo or a redo was accepted
pub record TakesBack (r : Running) (accepted : Accepted) (after : Running) (reply : Reply) : Type 0 where
  pub after_it : after ≡ record r { state = accepted.state }
  pub told : TellsWrites accepted reply

-- a message was accepted
pub record TakesIn (r : Running) (message : Message) (reading : ℕ) (accepted : Accepted) (after : Running) (reply : Reply) : Type 0 where
  pub after_it : after ≡ record r { state = accepted.state }
  pub joined : AreTakenIn r.state (message ∷ []) reading accepted
  pub told : reply ≡ Done ((codes "added " ++ decimal accepted.count) ∷ [])

-- a sync whose talk left the device in this state, with this outcome
pub record Syncs (r : Running) (given : Given) (end : State) (outcome : Outcome) (after : Running) (reply : Reply) : Type 0 where
  pub state : after.state ≡ end
  -- at an agreement the text of the clock's timestamp tells of the last sync, and the reply how many requests there were, and by how many
  -- messages the set has grown
  pub agrees : outcome ≡ agreed → (after.synced ≡ Some (stamp_text end.clock)) ×
      (reply ≡ Done ((codes "requests " ++ (decimal (length given.turns) ++ (codes " received " ++ decimal (length end.messages - length r.state.messages)))) ∷ []))
  -- else that text stays, and the reply tells why: the link failed, the reply was bad, the server refused, the tries still differ, or the clock
  -- refused what came
  pub stays : outcome ≢ agreed → after.synced ≡ r.synced
  pub lost : (since : List ℕ) → outcome ≡ going_on since → reply ≡ Refused 29 (codes "sync-failed") (codes "link")
  pub bad : (at : ℕ) → outcome ≡ bad_reply at → reply ≡ Refused 29 (codes "sync-failed") (codes "reply " ++ decimal at)
  pub rejected : (status : ℕ) → outcome ≡ refuses status → reply ≡ Refused 29 (codes "sync-failed") (codes "status " ++ decimal status)
  pub differ : (mine theirs : ℤ) → outcome ≡ out_of_sync mine theirs → reply ≡ Refused 29 (codes "sync-failed") (codes "out-of-sync " ++ signed_decimal mine ++ 32 ∷ signed_decimal theirs)
  pub untaken : (refusal : LineRefusal) (due : Reply) → outcome ≡ not_taken refusal → refused refusal ≡ Some due → reply ≡ due

-- the lines of a device that stands anywhere
pub record LinesAreObeyed : Type 0 where
  -- a write of a field, where the clock is not behind a message, as it never is in a device
  pub writes : (target : Target) (r : Running) (i : Input) (dataset row column : List ℕ) (value : Value) (accepted : Accepted) →
      Says i.line (Edit (Book (Set dataset row column value))) → IsAhead r.state.clock r.state.messages →
      edited r.state (Book (Set dataset row column value)) i.given.reading ≡ Ok accepted →
      Writes r dataset row column value accepted (step target r i).0 (step target r i).1
  -- and so any edit
  pub edits : (target : Target) (r : Running) (i : Input) (edit : AnyEdit) (accepted : Accepted) → Says i.line (Edit edit) → IsAhead r.state.clock r.state.messages →
      edited r.state edit i.given.reading ≡ Ok accepted → Makes r edit accepted (step target r i).0 (step target r i).1
  pub refused_edits : (target : Target) (r : Running) (i : Input) (edit : AnyEdit) (refusal : LineRefusal) → Says i.line (Edit edit) →
      edited r.state edit i.given.reading ≡ Err refusal → Refuses r refusal (step target r i).0 (step target r i).1
  -- an undo, and a redo
  pub undos : (target : Target) (r : Running) (i : Input) (accepted : Accepted) → Says i.line Undo → undone r.state i.given.reading ≡ Ok accepted →
      TakesBack r accepted (step target r i).0 (step target r i).1
  pub refused_undos : (target : Target) (r : Running) (i : Input) (refusal : LineRefusal) → Says i.line Undo → undone r.state i.given.reading ≡ Err refusal →
      Refuses r refusal (step target r i).0 (step target r i).1
  pub redos : (target : Target) (r : Running) (i : Input) (accepted : Accepted) → Says i.line Redo → redone r.state i.given.reading ≡ Ok accepted →
      TakesBack r accepted (step target r i).0 (step target r i).1
  pub refused_redos : (target : Target) (r : Running) (i : Input) (refusal : LineRefusal) → Says i.line Redo → redone r.state i.given.reading ≡ Err refusal →
      Refuses r refusal (step target r i).0 (step target r i).1
  -- a message of another device
  pub messages : (target : Target) (r : Running) (i : Input) (message : Message) (accepted : Accepted) → Says i.line (Receive message) →
      received r.state (message ∷ []) i.given.reading ≡ Ok accepted →
      TakesIn r message i.given.reading accepted (step target r i).0 (step target r i).1
  pub refused_messages : (target : Target) (r : Running) (i : Input) (message : Message) (refusal : LineRefusal) → Says i.line (Receive message) →
      received r.state (message ∷ []) i.given.reading ≡ Err refusal → Refuses r refusal (step target r i).0 (step target r i).1
  -- a sync, at a reading within the window of timestamps, and past it
  pub syncs : (target : Target) (r : Running) (i : Input) (end : State) (outcome : Outcome) → Says i.line Sync → IsWithin i.given →
      TalksTo target i.given r.state i.given.turns end outcome → Syncs r i.given end outcome (step target r i).0 (step target r i).1
  pub late_syncs : (target : Target) (r : Running) (i : Input) → Says i.line Sync → window ≤ i.given.reading / 60_000 →
      Refuses r (OfClock (Beyond i.given.reading)) (step target r i).0 (step target r i).1
  -- a line that only reads
  pub readings : (target : Target) (r : Running) (i : Input) (said : Command) → Says i.line said → IsReading said →
      step target r i ≡ (r, answer r.state.messages said)
  -- a line that is no command
  pub faults : (target : Target) (r : Running) (i : Input) (part : ℕ) → IsNone i.line part →
      step target r i ≡ (r, Refused 30 (codes "bad-command") (decimal part))
