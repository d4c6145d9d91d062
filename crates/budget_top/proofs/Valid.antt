-- The states of a device stay valid.
use Rattle.std.proofs.Common.{◌≡◌, ℕ, zero, suc, ◌+◌, ◌-◌, ◌<◌, ◌≤◌, ◌/◌, ◌*◌, Bool, true, false, cond, List, [], ◌∷◌, length, Option, None, Some, inl, inr, Result, Ok, Err, refl, ap, subst, arith}
use Rattle.std.specs.Prelude.{nat_lt, max, map, take, ◌++◌, if◌then◌else◌}
use Rattle.std.specs.List.{AllByRecursion, slice_get}
use Rattle.std.specs.Str.{is_utf8}
use Rattle.std.proofs.lemmas.Bool.{ltb-true, ltb-false}
use Rattle.hybrid_clock.specs.declared.clock.ClockFault.{ClockFault}
use Rattle.hybrid_clock.specs.declared.clock.ClockFault.TheVariants.{Drift, Beyond}
use Rattle.hybrid_clock.specs.declared.stamp.Stamp.{Stamp}
use Rattle.hybrid_clock.specs.Clock.{clock_after, moved, draw, next_counter, new_time, receive}
use Rattle.hybrid_clock.specs.Node.{IsNode}
use Rattle.hybrid_clock.specs.Stamp.{IsStamp, window}
use Rattle.field_merge.specs.declared.message.Message.{Message}
use Rattle.field_merge.specs.Log.{join, last_stamp}
use Rattle.field_merge.specs.Messages.{IsMessage, AreMessages}
use Rattle.field_merge.proofs.Joining.{is_join}
use Rattle.field_merge.proofs.Members.{all_from, all_of}
use Rattle.device_core.specs.declared.edit.Edit.{Edit}
use Rattle.device_core.specs.declared.edit.LineRefusal.{LineRefusal}
use Rattle.device_core.specs.declared.edit.LineRefusal.TheVariants.{Edit as OfEdit, Clock as OfClock}
use Rattle.book_rows.specs.declared.fault.EditFault.{EditFault}
use Rattle.book_rows.specs.declared.fault.EditFault.TheVariants.{TooManyWrites, NothingToUndo, NothingToRedo}
use Rattle.book_rows.specs.declared.write.Write.{Write}
use Rattle.book_rows.specs.Writes.{AreWrites}
use Rattle.device_core.specs.Books.{rows_of}
use Rattle.edit_history.specs.declared.before.Before.{Before}
use Rattle.edit_history.specs.declared.history.Turn.{Turn}
use Rattle.edit_history.specs.declared.history.Turn.TheVariants.{New, Undo, Redo}
use Rattle.edit_history.specs.History.{Entries, no_entries, latest_of, after, IsEntry, AreEntries}
use Rattle.edit_history.specs.Undo.{undo_writes}
use Rattle.edit_history.proofs.Valid.{undo_valid, entry_valid}
use Rattle.device_core.specs.Device.{State, Accepted, begun, first_in_row, written_over, written, writing, writes_back, edited, undone, redone, greatest_of, taken_in, receiving, received}
use Rattle.minute_trie.specs.Held.{Held}
use Rattle.minute_trie.specs.Diff.{difference}
use Rattle.device_sync.specs.declared.target.Target.{Target}
use Rattle.device_sync.specs.Replies.{Got, answer, refusal, bad, messages_of}
use Rattle.device_sync.specs.Laws.{TalksAreValid}
use Rattle.device_sync.specs.Requests.{first_since}
use Rattle.device_sync.specs.Talk.{Outcome, not_taken, trie_in, Next, ends, asks, compared, taken, next, Turn as TalkTurn, talked, followed, most_requests}
use Rattle.hybrid_clock.specs.Moments.{moment_text}
use Rattle.device_core.specs.Edits.{IsEdit, writes_of}
use Rattle.device_core.specs.Placing.{messages_from, stamped}
use Rattle.device_core.proofs.Drawing.{draw_valid, greater, moved_valid}
use Rattle.device_core.proofs.Greatest.{last_valid, of_valid}
use Rattle.device_core.proofs.Making.{writes_valid}
use Rattle.device_core.proofs.Stamping.{stamped_valid}
use Rattle.command_lines.specs.Commands.{command, IsCommand}
use Rattle.command_lines.specs.declared.command.Command.{Command}
use Rattle.command_lines.specs.declared.command.Command.TheVariants.{Edit as EditOf, Undo as UndoLine, Redo as RedoLine, Receive, Fields, Messages, Value as ValueOf, Trie, Balance, Register, Cell, Sheet, Broken, ScheduleStatus, Goals, TrackCell, TrackSheet, Sync}
use Rattle.command_lines.specs.declared.reply.Reply.{Reply}
use Rattle.command_lines.specs.Written.{LinesWriteBack}
use Rattle.budget_top.specs.Session.{asked, obeyed, settled, wrote_all, added_all}
use Rattle.budget_top.specs.Doing.{Given, Running, syncs, conversed, synced_by, IsWholeTalk, IsWholeIf, IsWhole}
use Rattle.budget_top.specs.Course.{Input, step}
use Rattle.budget_top.specs.Valid.{IsState, StatesStayValid}

-- ---- the clock

receive_valid : (clock s message : Stamp) (reading : ℕ) → IsStamp clock → IsStamp message → receive clock reading message ≡ Ok s → IsStamp s
unfolding receive
receive_valid clock s message reading is of e = by (nat_lt (reading / 60_000) window) (nat_lt 300_000 (message.millis - reading)) refl e
  where
    by : (near far : Bool) → nat_lt (reading / 60_000) window ≡ near
        → cond near (cond far (Err (Drift message.millis reading)) (moved clock reading (new_time clock reading message) (next_counter clock message (new_time clock reading message)))) (Err (Beyond reading)) ≡ Ok s → IsStamp s
    by false far f e = absurd (cc)
    by true true f e = absurd (cc)
    by true false f e =
        let below : reading / 60_000 < window = ltb-true (reading / 60_000) window f in
        let within : reading < 60_000 * window = omega (arith, below) in
        (moved_valid clock s reading (new_time clock reading message) (next_counter clock message (new_time clock reading message)) is.node
        (greater (max clock.millis reading) message.millis (60_000 * window) (greater clock.millis reading (60_000 * window) is.within within) of.within) e).0

-- ---- messages

pub join_valid : (ms ns : List Message) → AreMessages ms → AreMessages ns → AreMessages (join ms ns)
join_valid ms ns of_ms of_ns =
    all_from IsMessage (join ms ns) (λ m there.
    elim ((is_join ms ns).no_other m there) [
      | inl old ↦ all_of IsMessage ms of_ms m old
      | inr new ↦ all_of IsMessage ns of_ns m new
    ])

-- ---- a line

-- what was accepted leaves a valid state
abbrev LeavesValid : Result Accepted LineRefusal → Type 0
LeavesValid (Ok accepted) = IsState accepted.state
LeavesValid (Err why) = Unit {0}

settled_valid : (s : State) (reply : Accepted → Reply) (answer : Result Accepted LineRefusal) → IsState s → LeavesValid answer → IsState (settled s reply answer).0
settled_valid s reply (Ok accepted) is left = left
settled_valid s reply (Err why) is left = is

-- ---- what can be undone and redone

one_entry : (es : List (List Before)) (e : List Before) → AllByRecursion IsEntry es → IsEntry e → AllByRecursion IsEntry (es ++ e ∷ [])
one_entry [] e all is = (is, tt)
one_entry (x ∷ es) e all is = (all.0, one_entry es e all.1 is)

first_entries : (n : ℕ) (es : List (List Before)) → AllByRecursion IsEntry es → AllByRecursion IsEntry (take n es)
first_entries zero es all = tt
first_entries (suc n) [] all = tt
first_entries (suc n) (x ∷ es) all = (all.0, first_entries n es all.1)

after_valid : (turn : Turn) (entries : Entries) (entry : List Before) → AreEntries entries → IsEntry entry → AreEntries (after turn entries entry)
after_valid New entries entry are is = record { undo = one_entry entries.undo entry are.undo is; redo = tt }
after_valid Undo entries entry are is = record { undo = first_entries (length entries.undo - 1) entries.undo are.undo; redo = one_entry entries.redo entry are.redo is }
after_valid Redo entries entry are is = record { undo = one_entry entries.undo entry are.undo is; redo = first_entries (length entries.redo - 1) entries.redo are.redo }

-- an entry that is there is valid
entry_there : (es : List (List Before)) (n : ℕ) (e : List Before) → AllByRecursion IsEntry es → slice_get es n ≡ Some e → IsEntry e
entry_there [] n e all is = absurd (cc)
entry_there (x ∷ es) zero e all is = let same : x ≡ e = cc in subst IsEntry same all.0
entry_there (x ∷ es) (suc n) e all is = entry_there es n e all.1 is

-- ---- writes

many_from : (first : Stamp) (n : ℕ) (ws : List Write) → length (messages_from first n ws) ≡ length ws
many_from first n [] = refl
many_from first n (w ∷ ws) = ap suc (many_from first (n + 1) ws)

stamped_length : (first : Stamp) (ws : List Write) → length (stamped first ws) ≡ length ws
stamped_length first ws = many_from first 0 ws

written_valid : (s : State) (turn : Turn) (w : Write) (ws : List Write) (reading : ℕ) (drawn : Result Stamp ClockFault) → draw s.clock reading (length (w ∷ ws)) ≡ drawn → length (w ∷ ws) ≤ 65_536 → IsState s → AreWrites (w ∷ ws)
    → LeavesValid (written s turn (w ∷ ws) drawn)
written_valid s turn w ws reading (Err fault) e few is valid = tt
written_valid s turn w ws reading (Ok clock) e few is valid =
    let told = draw_valid s.clock clock reading (length (w ∷ ws)) is.clock e in
    let counter : clock.counter ≤ 65_535 = told.0.counter in
    let room : length (w ∷ ws) - 1 ≤ clock.counter = told.1 in
    let first : Stamp = first_in_row clock (length (w ∷ ws)) in
    let first_is : IsStamp first = record { within = told.0.within; counter = omega (arith, counter); node = told.0.node } in
    let new : List Message = stamped first (w ∷ ws) in
    let are : AreMessages new = stamped_valid first (w ∷ ws) first_is (omega (arith, counter, room)) valid in
    let many : length new ≡ length (w ∷ ws) = stamped_length first (w ∷ ws) in
    record {
      messages = join_valid s.messages new is.messages are;
      clock = told.0;
      history = after_valid turn s.history (written_over s.messages new) is.history (entry_valid s.messages new is.messages are (λ none. absurd (cc)) (omega (arith, many, few)));
    }

writing_valid : (s : State) (turn : Turn) (reading : ℕ) (ws : List Write) → IsState s → AreWrites ws → LeavesValid (writing s turn reading (Ok ws))
writing_valid s turn reading [] is valid = is
writing_valid s turn reading (w ∷ ws) is valid = by (nat_lt 65_536 (length (w ∷ ws))) refl
  where
    by : (many : Bool) → nat_lt 65_536 (length (w ∷ ws)) ≡ many → LeavesValid (cond many (Err (OfEdit (TooManyWrites (length (w ∷ ws))))) (written s turn (w ∷ ws) (draw s.clock reading (length (w ∷ ws)))))
    by true e = tt
    by false e = written_valid s turn w ws reading (draw s.clock reading (length (w ∷ ws))) refl (ltb-false 65_536 (length (w ∷ ws)) e) is valid

edited_valid : (s : State) (edit : Edit) (reading : ℕ) → IsState s → IsEdit edit → LeavesValid (edited s edit reading)
edited_valid s edit reading is valid = by (writes_of (rows_of s.messages) edit) refl
  where
    by : (o : Result (List Write) EditFault) → writes_of (rows_of s.messages) edit ≡ o → LeavesValid (writing s New reading o)
    by (Ok ws) e = writing_valid s New reading ws is (writes_valid s.messages edit ws is.messages valid e)
    by (Err fault) e = tt

back_valid : (s : State) (turn : Turn) (fault : EditFault) (reading : ℕ) (es : List (List Before)) → IsState s → AllByRecursion IsEntry es → LeavesValid (writing s turn reading (writes_back fault (latest_of es)))
back_valid s turn fault reading es is all = by (latest_of es) refl
  where
    by : (o : Option (List Before)) → latest_of es ≡ o → LeavesValid (writing s turn reading (writes_back fault o))
    by None e = tt
    by (Some entry) e = writing_valid s turn reading (undo_writes entry) is (undo_valid entry (entry_there es (length es - 1) entry all e))

-- ---- messages that come

received_valid : (s : State) (ns : List Message) (reading : ℕ) → IsState s → AreMessages ns → LeavesValid (received s ns reading)
received_valid s ns reading is valid = by (greatest_of ns) refl
  where
    taken : (g : Stamp) → IsStamp g → (clock : Result Stamp ClockFault) → receive s.clock reading g ≡ clock → LeavesValid (taken_in s ns clock)
    taken g of (Err fault) e = tt
    taken g of (Ok clock) e = record { messages = join_valid s.messages ns is.messages valid; clock = receive_valid s.clock clock g reading is.clock of e; history = is.history }

    by : (o : Option Stamp) → greatest_of ns ≡ o → LeavesValid (receiving s ns reading o)
    by None e = is
    by (Some g) e = taken g (of_valid g ns e valid) (receive s.clock reading g) refl

-- a command that was read is valid
abbrev AsksValid : Result Command ℕ → Type 0
AsksValid (Ok found) = IsCommand found
AsksValid (Err index) = Unit {0}

asked_valid : LinesWriteBack → (line : List ℕ) → AsksValid (asked line)
asked_valid law line = by (is_utf8 line)
  where
    read : (found : Result Command ℕ) → command line ≡ found → AsksValid found
    read (Ok found) e = (law line found e).0
    read (Err index) e = tt

    by : (text : Bool) → AsksValid (if text then command line else Err 0)
    by true = read (command line) refl
    by false = tt

obeyed_valid : (s : State) (reading : ℕ) (asks : Result Command ℕ) → IsState s → AsksValid asks → IsState (obeyed s reading asks).0
obeyed_valid s reading (Err index) is valid = is
obeyed_valid s reading (Ok (EditOf edit)) is valid = settled_valid s wrote_all (edited s edit reading) is (edited_valid s edit reading is valid)
obeyed_valid s reading (Ok UndoLine) is valid = settled_valid s wrote_all (undone s reading) is (back_valid s Undo NothingToUndo reading s.history.undo is is.history.undo)
obeyed_valid s reading (Ok RedoLine) is valid = settled_valid s wrote_all (redone s reading) is (back_valid s Redo NothingToRedo reading s.history.redo is is.history.redo)
obeyed_valid s reading (Ok (Receive message)) is valid = settled_valid s added_all (received s (message ∷ []) reading) is (received_valid s (message ∷ []) reading is (valid, tt))
obeyed_valid s reading (Ok Fields) is valid = is
obeyed_valid s reading (Ok (Messages since)) is valid = is
obeyed_valid s reading (Ok (ValueOf dataset row column)) is valid = is
obeyed_valid s reading (Ok Trie) is valid = is
obeyed_valid s reading (Ok (Balance account)) is valid = is
obeyed_valid s reading (Ok (Register account)) is valid = is
obeyed_valid s reading (Ok (Cell month name)) is valid = is
obeyed_valid s reading (Ok (Sheet month)) is valid = is
obeyed_valid s reading (Ok Broken) is valid = is
obeyed_valid s reading (Ok (ScheduleStatus id day)) is valid = is
obeyed_valid s reading (Ok (Goals month)) is valid = is
obeyed_valid s reading (Ok (TrackCell month name)) is valid = is
obeyed_valid s reading (Ok (TrackSheet month)) is valid = is
obeyed_valid s reading (Ok Sync) is valid = is

-- ---- a sync

-- what comes next is valid
abbrev IsNext : Next → Type 0
IsNext (ends p how) = IsState p
IsNext (asks p moment) = IsState p

compared_valid : (left : ℕ) (p : State) (f : Held) (o : Option ℕ) → IsState p → IsNext (compared left p f o)
compared_valid left p f None is = is
compared_valid zero p f (Some moment) is = is
compared_valid (suc left) p f (Some moment) is = is

next_valid : (reading left : ℕ) (p : State) (g : Got) → IsState p → AreMessages (messages_of g) → IsNext (next reading left p g)
next_valid reading left p (answer ms f) is valid = by (received p ms reading) (received_valid p ms reading is valid)
  where
    by : (o : Result Accepted LineRefusal) → LeavesValid o → IsNext (taken left p f o)
    by (Ok accepted) h = compared_valid left accepted.state f (difference (trie_in accepted.state) f) h
    by (Err fault) h = is
next_valid reading left p (refusal status) is valid = is
next_valid reading left p (bad at) is valid = is

followed_valid : (n : Next) (on : State → ℕ → State × Outcome) → IsNext n → ((q : State) (moment : ℕ) → IsState q → IsState (on q moment).0) → IsState (followed n on).0
followed_valid (ends p how) on is goes_on = is
followed_valid (asks p moment) on is goes_on = goes_on p moment is

talked_valid : (reading left : ℕ) (since : List ℕ) (p : State) (turns : List TalkTurn) → IsState p → AllByRecursion (λ x. AreMessages (messages_of x.got)) turns
    → IsState (talked reading left since p (map (λ (x : TalkTurn). x.got) turns)).0
talked_valid reading left since p [] is heard = is
talked_valid reading zero since p (x ∷ xs) is heard = is
talked_valid reading (suc left) since p (x ∷ xs) is heard =
    followed_valid (next reading left p x.got) _ (next_valid reading left p x.got is heard.0) (λ q moment of. talked_valid reading left (moment_text moment) q xs of heard.1)

conversed_valid : TalksAreValid → (target : Target) (s : State) (given : Given) → IsState s → IsWholeTalk target s given → IsState (conversed s given).0
conversed_valid law target s given is w = by (nat_lt (given.reading / 60_000) window) refl
  where
    by : (b : Bool) → nat_lt (given.reading / 60_000) window ≡ b
        → IsState (cond b (talked given.reading most_requests (first_since given.since given.reading) s (map (λ (x : TalkTurn). x.got) given.turns)) (s, not_taken (OfClock (Beyond given.reading)))).0
    by true e =
        talked_valid given.reading most_requests (first_since given.since given.reading) s given.turns is
        (law target given.reading most_requests (first_since given.since given.reading) s (conversed s given).0 given.turns (conversed s given).1 (w.talk (ltb-true (given.reading / 60_000) window e)))
    by false e = is

step_valid : LinesWriteBack → TalksAreValid → (target : Target) (r : Running) (i : Input) → IsState r.state → IsWhole target r.state i.given (asked i.line) → IsState (step target r i).0.state
step_valid law heard target r i is w = by (syncs (asked i.line)) w
  where
    by : (b : Bool) → IsWholeIf b target r.state i.given → IsState (cond b (synced_by r.state i.given) (obeyed r.state i.given.reading (asked i.line))).0
    by true w = conversed_valid heard target r.state i.given is w
    by false w = obeyed_valid r.state i.given.reading (asked i.line) is (asked_valid law i.line)

begun_valid : (node : List ℕ) (ms : List Message) → IsNode node → AreMessages ms → IsState (begun node ms)
begun_valid node ms is valid = by (last_stamp ms) (λ s e. last_valid ms valid s e)
  where
    by : (o : Option Stamp) → ((s : Stamp) → o ≡ Some s → IsStamp s) → IsState (record { messages = ms; clock = clock_after node o; history = no_entries })
    by None h = record { messages = valid; clock = record { within = omega arith; counter = omega arith; node = is }; history = record { undo = tt; redo = tt } }
    by (Some s) h = let last = h s refl in record { messages = valid; clock = record { within = last.within; counter = last.counter; node = is }; history = record { undo = tt; redo = tt } }

pub stay_valid : LinesWriteBack → TalksAreValid → StatesStayValid
stay_valid law heard = record {
  begun = begun_valid;
  stepped = step_valid law heard;
}
