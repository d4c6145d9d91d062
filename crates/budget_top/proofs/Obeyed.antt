-- What a device does at a line.
use Rattle.std.proofs.Common.{◌≡◌, ◌≢◌, inl, inr, ℕ, ◌-◌, ◌/◌, ◌≤◌, List, [], ◌∷◌, length, Bool, cond, refl, sym, ap, ◌∙◌, Option, Result, Ok, Err}
use Rattle.hybrid_clock.specs.Stamp.{window}
use Rattle.hybrid_clock.specs.declared.clock.ClockFault.TheVariants.{Beyond}
use Rattle.device_sync.specs.Talk.{Outcome, going_on, agreed, out_of_sync, not_taken, refused as refuses, bad_reply}
use Rattle.device_sync.specs.Laws.{TalksAreTold}
use Rattle.device_core.specs.declared.edit.LineRefusal.TheVariants.{Clock as OfClock}
use Rattle.field_values.specs.declared.value.Value.{Value}
use Rattle.field_merge.specs.declared.message.Message.{Message}
use Rattle.device_core.specs.declared.edit.Edit.{Edit as AnyEdit}
use Rattle.device_core.specs.declared.edit.Edit.TheVariants.{Book}
use Rattle.book_edits.specs.declared.edit.BookEdit.TheVariants.{Set}
use Rattle.device_core.specs.declared.edit.LineRefusal.{LineRefusal}
use Rattle.device_core.specs.Device.{State, Accepted, IsAhead, edited, undone, redone, received}
use Rattle.device_core.specs.ReadBack.{EditsReadBack, ReceivedAreJoined}
use Rattle.device_core.specs.Several.{EditsAreMade}
use Rattle.command_lines.specs.declared.command.Command.{Command}
use Rattle.command_lines.specs.declared.command.Command.TheVariants.{Edit, Undo, Redo, Receive, Fields, Messages, Value as ValueOf, Trie, Balance, Register, Cell, Sheet, Broken, ScheduleStatus, Goals, TrackCell, TrackSheet, Sync}
use Rattle.command_lines.specs.declared.reply.Reply.{Reply}
use Rattle.command_lines.specs.Commands.{command}
use Rattle.command_lines.specs.Readings.{answer, IsReading}
use Rattle.command_lines.specs.Replies.{wrote, refused}
use Rattle.budget_top.specs.Session.{asked, settled, wrote_all, added_all, reply_to_refusal}
use Rattle.device_sync.specs.declared.target.Target.{Target}
use Rattle.budget_top.specs.Doing.{Given, Running, IsWithin, TalksTo, conversed, last_synced, sync_reply, done}
use Rattle.budget_top.specs.Course.{Input, step}
use Rattle.budget_top.specs.Obeying.{Says, IsNone, Refuses, Writes, Makes, TakesBack, TakesIn, Syncs, LinesAreObeyed}
use Rattle.budget_top.proofs.Syncing.{talked_so, late_so}

-- a line asks for what it says
asks : (line : List ℕ) (said : Command) → Says line said → asked line ≡ Ok said
asks line said h = ap (λ (b : Bool). cond b (command line) (Err 0)) h.utf8 ∙ h.command

asks_none : (line : List ℕ) (part : ℕ) → IsNone line part → asked line ≡ Err part
asks_none line part (inl h) = ap (λ (b : Bool). cond b (command line) (Err 0)) h.0 ∙ ap (λ (n : ℕ). Err n) (sym h.1)
asks_none line part (inr h) = ap (λ (b : Bool). cond b (command line) (Err 0)) h.0 ∙ h.1

stepped : (target : Target) (r : Running) (i : Input) (said : Result Command ℕ) → asked i.line ≡ said → step target r i ≡ done target r i.given said
stepped target r i said e = ap (λ (c : Result Command ℕ). done target r i.given c) e

-- what an outcome leaves, with the reply
abbrev left_by : Running → (Accepted → Reply) → Result Accepted LineRefusal → Running × Reply
left_by r reply meant = (record r { state = (settled r.state reply meant).0 }, (settled r.state reply meant).1)

refusing : (r : Running) (reply : Accepted → Reply) (meant : Result Accepted LineRefusal) (refusal : LineRefusal) (after : Running × Reply)
    → after ≡ left_by r reply meant → meant ≡ Err refusal → Refuses r refusal after.0 after.1
refusing r reply meant refusal after is e =
    let now : after ≡ (r, reply_to_refusal (refused refusal)) = is ∙ ap (λ (m : Result Accepted LineRefusal). left_by r reply m) e in record {
      same = ap (λ (p : Running × Reply). p.0) now;
      told = λ due has. ap (λ (p : Running × Reply). p.1) now ∙ ap reply_to_refusal has;
    }

accepting : (r : Running) (reply : Accepted → Reply) (meant : Result Accepted LineRefusal) (accepted : Accepted) (after : Running × Reply)
    → after ≡ left_by r reply meant → meant ≡ Ok accepted → after ≡ (record r { state = accepted.state }, reply accepted)
accepting r reply meant accepted after is e = is ∙ ap (λ (m : Result Accepted LineRefusal). left_by r reply m) e

writing : EditsReadBack → (target : Target) (r : Running) (i : Input) (dataset row column : List ℕ) (value : Value) (accepted : Accepted)
    → Says i.line (Edit (Book (Set dataset row column value))) → IsAhead r.state.clock r.state.messages
    → edited r.state (Book (Set dataset row column value)) i.given.reading ≡ Ok accepted → Writes r dataset row column value accepted (step target r i).0 (step target r i).1
writing law target r i dataset row column value accepted says ahead is =
    let now = accepting r wrote_all _ accepted (step target r i) (stepped target r i _ (asks i.line _ says)) is in
    let back = law r.state dataset row column value i.given.reading accepted ahead is in record {
      after_it = ap (λ (p : Running × Reply). p.0) now;
      read_back = back;
      told = ap (λ (p : Running × Reply). p.1) now ∙ ap (λ (n : ℕ). wrote n accepted.made) back.one ∙ ap (λ (ids : List (List ℕ)). wrote 1 ids) back.none_made;
    }

editing : EditsAreMade → (target : Target) (r : Running) (i : Input) (edit : AnyEdit) (accepted : Accepted) → Says i.line (Edit edit) → IsAhead r.state.clock r.state.messages
    → edited r.state edit i.given.reading ≡ Ok accepted → Makes r edit accepted (step target r i).0 (step target r i).1
editing law target r i edit accepted says ahead is =
    let now = accepting r wrote_all _ accepted (step target r i) (stepped target r i _ (asks i.line _ says)) is in record {
      after_it = ap (λ (p : Running × Reply). p.0) now;
      made = law r.state edit i.given.reading accepted ahead is;
      told = ap (λ (p : Running × Reply). p.1) now;
    }

taking_back : (target : Target) (r : Running) (i : Input) (said : Command) (meant : Result Accepted LineRefusal) (accepted : Accepted) → Says i.line said → done target r i.given (Ok said) ≡ left_by r wrote_all meant
    → meant ≡ Ok accepted → TakesBack r accepted (step target r i).0 (step target r i).1
taking_back target r i said meant accepted says so is =
    let now = accepting r wrote_all meant accepted (step target r i) (stepped target r i (Ok said) (asks i.line said says) ∙ so) is in record {
      after_it = ap (λ (p : Running × Reply). p.0) now;
      told = ap (λ (p : Running × Reply). p.1) now;
    }

taking_in : ReceivedAreJoined → (target : Target) (r : Running) (i : Input) (message : Message) (accepted : Accepted) → Says i.line (Receive message)
    → received r.state (message ∷ []) i.given.reading ≡ Ok accepted → TakesIn r message i.given.reading accepted (step target r i).0 (step target r i).1
taking_in law target r i message accepted says is =
    let now = accepting r added_all _ accepted (step target r i) (stepped target r i _ (asks i.line _ says)) is in record {
      after_it = ap (λ (p : Running × Reply). p.0) now;
      joined = law r.state (message ∷ []) i.given.reading accepted is;
      told = ap (λ (p : Running × Reply). p.1) now;
    }

-- what a sync leaves, with the reply
abbrev synced_to : Running → Given → State → Outcome → Running × Reply
synced_to r given end o = (record { state = end; synced = last_synced end o r.synced }, sync_reply (length given.turns) (length end.messages - length r.state.messages) o)

text_stays : (end : State) (o : Outcome) (text : Option (List ℕ)) → o ≢ agreed → last_synced end o text ≡ text
text_stays end (going_on since) text other = refl
text_stays end agreed text other = absurd (other refl)
text_stays end (out_of_sync mine theirs) text other = refl
text_stays end (not_taken fault) text other = refl
text_stays end (refuses status) text other = refl
text_stays end (bad_reply at) text other = refl

syncing : TalksAreTold → (target : Target) (r : Running) (i : Input) (end : State) (outcome : Outcome) → Says i.line Sync → IsWithin i.given
    → TalksTo target i.given r.state i.given.turns end outcome → Syncs r i.given end outcome (step target r i).0 (step target r i).1
syncing law target r i end outcome says within talk =
    let so : conversed r.state i.given ≡ (end, outcome) = talked_so law target r.state i.given end outcome within talk in
    let now : step target r i ≡ synced_to r i.given end outcome =
    stepped target r i _ (asks i.line _ says)
    ∙ ap (λ (d : State × Outcome). synced_to r i.given d.0 d.1) so in
    let reply : (o : Outcome) → outcome ≡ o → (step target r i).1 ≡ (synced_to r i.given end o).1 = λ o e. ap (λ (p : Running × Reply). p.1) now ∙ ap (λ (x : Outcome). (synced_to r i.given end x).1) e in
    record {
      state = ap (λ (p : Running × Reply). p.0.state) now;
      agrees = λ e. (ap (λ (p : Running × Reply). p.0.synced) now ∙ ap (λ (x : Outcome). last_synced end x r.synced) e, reply agreed e);
      stays = λ other. ap (λ (p : Running × Reply). p.0.synced) now ∙ text_stays end outcome r.synced other;
      lost = λ since e. reply (going_on since) e;
      bad = λ at e. reply (bad_reply at) e;
      rejected = λ status e. reply (refuses status) e;
      differ = λ mine theirs e. reply (out_of_sync mine theirs) e;
      untaken = λ refusal due e has. reply (not_taken refusal) e ∙ ap reply_to_refusal has;
    }

syncing_late : (target : Target) (r : Running) (i : Input) → Says i.line Sync → window ≤ i.given.reading / 60_000 → Refuses r (OfClock (Beyond i.given.reading)) (step target r i).0 (step target r i).1
syncing_late target r i says over =
    let now : step target r i ≡ synced_to r i.given r.state (not_taken (OfClock (Beyond i.given.reading))) =
    stepped target r i _ (asks i.line _ says)
    ∙ ap (λ (d : State × Outcome). synced_to r i.given d.0 d.1) (late_so r.state i.given over) in
    record {
      same = ap (λ (p : Running × Reply). p.0) now;
      told = λ due has. ap (λ (p : Running × Reply). p.1) now ∙ ap reply_to_refusal has;
    }

answering : (target : Target) (r : Running) (i : Input) (said : Command) → asked i.line ≡ Ok said → IsReading said → step target r i ≡ (r, answer r.state.messages said)
answering target r i (Edit edit) asks h = absurd h
answering target r i (Receive message) asks h = absurd h
answering target r i Undo asks h = absurd h
answering target r i Redo asks h = absurd h
answering target r i Sync asks h = absurd h
answering target r i Fields asks h = stepped target r i _ asks
answering target r i (Messages since) asks h = stepped target r i _ asks
answering target r i (ValueOf dataset row column) asks h = stepped target r i _ asks
answering target r i Trie asks h = stepped target r i _ asks
answering target r i (Balance account) asks h = stepped target r i _ asks
answering target r i (Register account) asks h = stepped target r i _ asks
answering target r i (Cell month name) asks h = stepped target r i _ asks
answering target r i (Sheet month) asks h = stepped target r i _ asks
answering target r i Broken asks h = stepped target r i _ asks
answering target r i (ScheduleStatus id day) asks h = stepped target r i _ asks
answering target r i (Goals month) asks h = stepped target r i _ asks
answering target r i (TrackCell month name) asks h = stepped target r i _ asks
answering target r i (TrackSheet month) asks h = stepped target r i _ asks

pub lines_obeyed : EditsReadBack → EditsAreMade → ReceivedAreJoined → TalksAreTold → LinesAreObeyed
lines_obeyed writes edits messages talks = record {
  writes = writing writes;
  edits = editing edits;
  refused_edits = λ target r i edit refusal says is. refusing r wrote_all _ refusal (step target r i) (stepped target r i _ (asks i.line _ says)) is;
  undos = λ target r i accepted says is. taking_back target r i Undo (undone r.state i.given.reading) accepted says refl is;
  refused_undos = λ target r i refusal says is. refusing r wrote_all _ refusal (step target r i) (stepped target r i _ (asks i.line _ says)) is;
  redos = λ target r i accepted says is. taking_back target r i Redo (redone r.state i.given.reading) accepted says refl is;
  refused_redos = λ target r i refusal says is. refusing r wrote_all _ refusal (step target r i) (stepped target r i _ (asks i.line _ says)) is;
  messages = taking_in messages;
  refused_messages = λ target r i message refusal says is. refusing r added_all _ refusal (step target r i) (stepped target r i _ (asks i.line _ says)) is;
  syncs = syncing talks;
  late_syncs = syncing_late;
  readings = λ target r i said says reads. answering target r i said (asks i.line said says) reads;
  faults = λ target r i part none. stepped target r i _ (asks_none i.line part none);
}
