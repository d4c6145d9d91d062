-- Lines of a run that take something back, and lines that only read.
use Rattle.std.proofs.Common.{◌≡◌, ℕ, List, Result, Ok, Err, sym, ap, ◌∙◌, subst}
use Rattle.field_merge.specs.declared.message.Message.{Message}
use Rattle.field_merge.specs.Laws.{JoinsInAnyOrder}
use Rattle.kept_messages.specs.Records.{kept_set}
use Rattle.book_rows.specs.declared.fault.EditFault.{EditFault}
use Rattle.book_rows.specs.declared.fault.EditFault.TheVariants.{NothingToUndo, NothingToRedo}
use Rattle.edit_history.specs.declared.before.Before.{Before}
use Rattle.edit_history.specs.declared.history.Turn.{Turn}
use Rattle.device_core.specs.declared.edit.LineRefusal.{LineRefusal}
use Rattle.device_core.specs.declared.edit.LineRefusal.TheVariants.{Edit as OfEdit, Clock as OfClock}
use Rattle.device_core.specs.Device.{State, Accepted, IsAhead, undone, redone}
use Rattle.device_core.specs.Undoing.{IsTakenBack, IsRestored, EntriesAreTakenBack, LinesAreUndone}
use Rattle.command_lines.specs.declared.reply.Reply.{Reply}
use Rattle.command_lines.specs.Readings.{answer}
use Rattle.command_lines.specs.Replies.{reply_text_of}
use Rattle.device_sync.specs.declared.target.Target.{Target}
use Rattle.budget_top.specs.Doing.{Running}
use Rattle.budget_top.specs.Course.{Input, step}
use Rattle.budget_top.specs.DeviceRun.{beginning}
use Rattle.budget_top.specs.Obeying.{Refuses, TakesBack, LinesAreObeyed}
use Rattle.budget_top.specs.Seen.{device_records}
use Rattle.sync_laws.specs.Lines.{TakesLatest, LinesAreTakenBack, AnswerEqually, EqualSetsAnswerEqually}

-- a line that takes back by what it is answered, and by what a run says of such a line
taking : (target : Target) (r : Running) (turn : Turn) (entries : List (List Before)) (fault : EditFault) (i : Input) (meant : Result Accepted LineRefusal)
    → IsAhead r.state.clock r.state.messages → IsTakenBack r.state turn entries fault i.given.reading meant
    → ((accepted : Accepted) → meant ≡ Ok accepted → TakesBack r accepted (step target r i).0 (step target r i).1)
    → ((refusal : LineRefusal) → meant ≡ Err refusal → Refuses r refusal (step target r i).0 (step target r i).1)
    → TakesLatest target r turn entries fault i
taking target r turn entries fault i meant ahead law takes refuses = record {
  none = λ e. refuses (OfEdit fault) (law.none e);
  taken = λ entry clock is drawn.
      (let a = law.accepted entry clock is drawn in
      let t = takes a.0 a.1.0 in record {
        accepted = a.0;
        at_clock = a.1.1;
        made = law.made entry a.0 ahead is a.1.0;
        after_it = t.after_it;
        told = t.told;
      });
  no_stamp = λ entry fault is none. refuses (OfClock fault) (law.no_stamp entry fault is none);
}

-- two lines, one after the other
restored : (r after back : Running) (s t : State) → after.state ≡ s → back.state ≡ t → IsRestored r.state s t → IsRestored r.state after.state back.state
restored r after back s t a b law = subst (λ (x : State). IsRestored r.state x back.state) (sym a) (subst (λ (y : State). IsRestored r.state s y) (sym b) law)

state_of : (r p : Running) (s : State) → p ≡ record r { state = s } → p.state ≡ s
state_of r p s is = ap (λ (x : Running). x.state) is

pub taken_back : LinesAreObeyed → EntriesAreTakenBack → LinesAreUndone → LinesAreTakenBack
taken_back lines entries undone_so = record {
  undos = λ target r i says valid ahead. taking target r _ r.state.history.undo NothingToUndo i (undone r.state i.given.reading) ahead (entries.undos r.state i.given.reading valid)
      (λ accepted is. lines.undos target r i accepted says is) (λ refusal is. lines.refused_undos target r i refusal says is);
  redos = λ target r i says valid ahead. taking target r _ r.state.history.redo NothingToRedo i (redone r.state i.given.reading) ahead (entries.redos r.state i.given.reading valid)
      (λ accepted is. lines.redos target r i accepted says is) (λ refusal is. lines.refused_redos target r i refusal says is);
  edit_undo = λ target r i j edit after back says behind ahead is some next.
      (let p = step target r i in
      let a = state_of r p.0 after.state (lines.edits target r i edit after says ahead is).after_it in
      let b = state_of p.0 (step target p.0 j).0 back.state (lines.undos target p.0 j back behind (ap (λ (x : State). undone x j.given.reading) a ∙ next)).after_it in
      restored r p.0 (step target p.0 j).0 after.state back.state a b (undone_so.edits r.state edit i.given.reading j.given.reading after back ahead some is next));
  undo_redo = λ target r i j after back says behind ahead is some next.
      (let p = step target r i in
      let a = state_of r p.0 after.state (lines.undos target r i after says is).after_it in
      let b = state_of p.0 (step target p.0 j).0 back.state (lines.redos target p.0 j back behind (ap (λ (x : State). redone x j.given.reading) a ∙ next)).after_it in
      restored r p.0 (step target p.0 j).0 after.state back.state a b (undone_so.undos r.state i.given.reading j.given.reading after back ahead some is next));
  redo_undo = λ target r i j after back says behind ahead is some next.
      (let p = step target r i in
      let a = state_of r p.0 after.state (lines.redos target r i after says is).after_it in
      let b = state_of p.0 (step target p.0 j).0 back.state (lines.undos target p.0 j back behind (ap (λ (x : State). undone x j.given.reading) a ∙ next)).after_it in
      restored r p.0 (step target p.0 j).0 after.state back.state a b (undone_so.redos r.state i.given.reading j.given.reading after back ahead some is next));
}

-- what two runs with the same messages answer
equally : LinesAreObeyed → (r q : Running) → r.state.messages ≡ q.state.messages → AnswerEqually r q
equally lines r q same target other i j said says also reads =
    let mine = lines.readings target r i said says reads in
    let theirs = lines.readings other q j said also reads in (
      ap (λ (p : Running × Reply). reply_text_of p.1) mine ∙ ap (λ (ms : List Message). reply_text_of (answer ms said)) same ∙ sym (ap (λ (p : Running × Reply). reply_text_of p.1) theirs),
      ap (λ (p : Running × Reply). p.0) mine,
      ap (λ (p : Running × Reply). p.0) theirs,
    )

-- what a group keeps is one message set
one_set : (r : Result (List Message) ℕ) (ms ns : List Message) → r ≡ Ok ms → r ≡ Ok ns → ms ≡ ns
one_set r ms ns a b = let same : Ok ms ≡ Ok ns = sym a ∙ b in cc

pub equal_answers : LinesAreObeyed → JoinsInAnyOrder → EqualSetsAnswerEqually
equal_answers lines order = record {
  equal = equally lines;
  any_order = λ r q ms ns ps rising each have mine theirs. equally lines r q (mine ∙ order ms ns ps rising each have ∙ sym theirs);
  reopened = λ target other entry kept r node first holds is. equally lines r (beginning node other first kept) (one_set (kept_set (device_records kept)) r.state.messages first holds.set.messages is);
}
