-- No line and no conversation loses a message.
use Rattle.std.proofs.Common.{◌≡◌, inl, inr, ℕ, zero, suc, Bool, true, false, cond, List, [], ◌∷◌, ◌++◌, map, Option, None, Some, Result, Ok, Err, refl, sym, ap, subst}
use Rattle.std.specs.Prelude.{nat_lt, ◌/◌, Contains}
use Rattle.std.specs.List.{list_any}
use Rattle.hybrid_clock.specs.Stamp.{window}
use Rattle.hybrid_clock.specs.Moments.{moment_text}
use Rattle.hybrid_clock.specs.declared.clock.ClockFault.TheVariants.{Beyond}
use Rattle.budget_ports.specs.Contents.{Contents}
use Rattle.field_merge.specs.declared.message.Message.{Message}
use Rattle.field_merge.specs.Log.{has_stamp, by_stamp, placed, join_one, join}
use Rattle.kept_messages.proofs.Members.{still_there}
use Rattle.minute_trie.specs.Held.{Held}
use Rattle.minute_trie.specs.Diff.{difference}
use Rattle.device_core.specs.declared.edit.LineRefusal.{LineRefusal}
use Rattle.device_core.specs.declared.edit.LineRefusal.TheVariants.{Clock as OfClock}
use Rattle.device_core.specs.Accepting.{IsJoined, AcceptedAreJoined}
use Rattle.device_core.specs.Device.{State, Accepted, edited, undone, redone, received}
use Rattle.device_sync.specs.declared.target.Target.{Target}
use Rattle.device_sync.specs.Replies.{Got, answer, refusal, bad}
use Rattle.device_sync.specs.Requests.{first_since}
use Rattle.device_sync.specs.Talk.{Outcome, not_taken, trie_in, Next, ends, asks, compared, taken, next, Turn, Follows, Talk, talked, followed, most_requests}
use Rattle.command_lines.specs.declared.command.Command.{Command}
use Rattle.command_lines.specs.declared.command.Command.TheVariants.{Edit as EditOf, Undo as UndoLine, Redo as RedoLine, Receive, Fields, Messages, Value as ValueOf, Trie, Balance, Register, Cell, Sheet, Broken, ScheduleStatus, Goals, TrackCell, TrackSheet, Sync}
use Rattle.command_lines.specs.declared.reply.Reply.{Reply}
use Rattle.budget_top.specs.Session.{asked, obeyed, settled, wrote_all, added_all}
use Rattle.budget_top.specs.Doing.{Given, Running, syncs, conversed, synced_by, MayLeaveIf}
use Rattle.budget_top.specs.Course.{Input, step, after}
use Rattle.budget_top.specs.Handling.{HoldsSome}
use Rattle.budget_top.specs.Seen.{Holds}
use Rattle.budget_top.specs.Standing.{Leaves}
use Rattle.budget_top.specs.Acknowledged.{Keeps, KeepsAnswered}

in_join : (ms ns : List Message) → Keeps ms (join ms ns)
in_join ms [] m c = c
in_join ms (n ∷ ns) m c = in_join (join_one ms n) ns m (elim (list_any (has_stamp n.stamp) ms) as (λ b. Contains (cond b ms (placed by_stamp ms n)) m) [ true ↦ c | false ↦ still_there ms n m c ])

same_keeps : (p q : State) → q ≡ p → Keeps p.messages q.messages
same_keeps p q e m c = subst (λ (z : State). Contains z.messages m) (sym e) c

-- what was accepted leaves all that was there
abbrev LeavesAll : State → Result Accepted LineRefusal → Type 0
LeavesAll s (Ok accepted) = Keeps s.messages accepted.state.messages
LeavesAll s (Err why) = Unit {0}

leaves : (s : State) (answer : Result Accepted LineRefusal) → ((accepted : Accepted) → answer ≡ Ok accepted → IsJoined s accepted) → LeavesAll s answer
leaves s (Ok accepted) law = let b = (law accepted refl).brings in λ m c. subst (λ (z : List Message). Contains z m) (sym b.messages) (in_join s.messages b.news m c)
leaves s (Err why) law = tt

settled_keeps : (s : State) (reply : Accepted → Reply) (answer : Result Accepted LineRefusal) → LeavesAll s answer → Keeps s.messages (settled s reply answer).0.messages
settled_keeps s reply (Ok accepted) h = h
settled_keeps s reply (Err why) h = λ m c. c

-- what comes next has all messages
abbrev NextKeeps : State → Next → Type 0
NextKeeps p (ends q how) = Keeps p.messages q.messages
NextKeeps p (asks q moment) = Keeps p.messages q.messages

module _ (law : AcceptedAreJoined) where
  obeyed_keeps : (s : State) (reading : ℕ) (asks : Result Command ℕ) → Keeps s.messages (obeyed s reading asks).0.messages
  obeyed_keeps s reading (Err index) = λ m c. c
  obeyed_keeps s reading (Ok (EditOf edit)) = settled_keeps s wrote_all (edited s edit reading) (leaves s (edited s edit reading) (law.of_edits s edit reading))
  obeyed_keeps s reading (Ok UndoLine) = settled_keeps s wrote_all (undone s reading) (leaves s (undone s reading) (law.of_undo s reading))
  obeyed_keeps s reading (Ok RedoLine) = settled_keeps s wrote_all (redone s reading) (leaves s (redone s reading) (law.of_redo s reading))
  obeyed_keeps s reading (Ok (Receive message)) = settled_keeps s added_all (received s (message ∷ []) reading) (leaves s (received s (message ∷ []) reading) (law.of_messages s (message ∷ []) reading))
  obeyed_keeps s reading (Ok Fields) = λ m c. c
  obeyed_keeps s reading (Ok (Messages since)) = λ m c. c
  obeyed_keeps s reading (Ok (ValueOf dataset row column)) = λ m c. c
  obeyed_keeps s reading (Ok Trie) = λ m c. c
  obeyed_keeps s reading (Ok (Balance account)) = λ m c. c
  obeyed_keeps s reading (Ok (Register account)) = λ m c. c
  obeyed_keeps s reading (Ok (Cell month name)) = λ m c. c
  obeyed_keeps s reading (Ok (Sheet month)) = λ m c. c
  obeyed_keeps s reading (Ok Broken) = λ m c. c
  obeyed_keeps s reading (Ok (ScheduleStatus id day)) = λ m c. c
  obeyed_keeps s reading (Ok (Goals month)) = λ m c. c
  obeyed_keeps s reading (Ok (TrackCell month name)) = λ m c. c
  obeyed_keeps s reading (Ok (TrackSheet month)) = λ m c. c
  obeyed_keeps s reading (Ok Sync) = λ m c. c

  -- ---- a conversation

  compared_keeps : (left : ℕ) (p q : State) (f : Held) (d : Option ℕ) → Keeps p.messages q.messages → NextKeeps p (compared left q f d)
  compared_keeps left p q f None h = h
  compared_keeps zero p q f (Some moment) h = h
  compared_keeps (suc left) p q f (Some moment) h = h

  next_keeps : (reading left : ℕ) (p : State) (g : Got) → NextKeeps p (next reading left p g)
  next_keeps reading left p (answer ms f) = by (received p ms reading) (leaves p (received p ms reading) (law.of_messages p ms reading))
    where
      by : (o : Result Accepted LineRefusal) → LeavesAll p o → NextKeeps p (taken left p f o)
      by (Ok accepted) h = compared_keeps left p accepted.state f (difference (trie_in accepted.state) f) h
      by (Err fault) h = λ m c. c
  next_keeps reading left p (refusal status) = λ m c. c
  next_keeps reading left p (bad at) = λ m c. c

  pub talk_keeps : (target : Target) (reading left : ℕ) (since : List ℕ) (p now : State) (turns : List Turn) (o : Outcome) → Talk target reading left since p turns now o → Keeps p.messages now.messages
  talk_keeps target reading left since p now [] o h = same_keeps p now h.stays
  talk_keeps target reading zero since p now (x ∷ xs) o h = absurd h
  talk_keeps target reading (suc left) since p now (x ∷ xs) o h =
      by (next reading left p x.got) (next_keeps reading left p x.got) h.2 (λ q moment k. talk_keeps target reading left (moment_text moment) q now xs o k)
    where
      by : (n : Next) → NextKeeps p n → Follows n xs now o (λ q moment. Talk target reading left (moment_text moment) q xs now o)
          → ((q : State) (moment : ℕ) → Talk target reading left (moment_text moment) q xs now o → Keeps q.messages now.messages) → Keeps p.messages now.messages
      by (ends q how) k e go = λ m c. same_keeps q now e.stays m (k m c)
      by (asks q moment) k e go = λ m c. go q moment e m (k m c)

  -- the same, told by what the replies are judged as
  talked_keeps : (reading left : ℕ) (since : List ℕ) (p : State) (gots : List Got) → Keeps p.messages (talked reading left since p gots).0.messages
  talked_keeps reading left since p [] = λ m c. c
  talked_keeps reading zero since p (g ∷ gs) = λ m c. c
  talked_keeps reading (suc left) since p (g ∷ gs) = by (next reading left p g) (next_keeps reading left p g) (λ q moment. talked_keeps reading left (moment_text moment) q gs)
    where
      by : (n : Next) → NextKeeps p n → ((q : State) (moment : ℕ) → Keeps q.messages (talked reading left (moment_text moment) q gs).0.messages)
          → Keeps p.messages (followed n (λ q moment. talked reading left (moment_text moment) q gs)).0.messages
      by (ends q how) k go = k
      by (asks q moment) k go = λ m c. go q moment m (k m c)

  conversed_keeps : (s : State) (given : Given) → Keeps s.messages (conversed s given).0.messages
  conversed_keeps s given = by (nat_lt (given.reading / 60_000) window)
    where
      by : (b : Bool) → Keeps s.messages (cond b (talked given.reading most_requests (first_since given.since given.reading) s (map (λ x. x.got) given.turns)) (s, not_taken (OfClock (Beyond given.reading)))).0.messages
      by true = talked_keeps given.reading most_requests (first_since given.since given.reading) s (map (λ x. x.got) given.turns)
      by false = λ m c. c

  -- ---- lines

  pub step_keeps : (target : Target) (r : Running) (i : Input) → Keeps r.state.messages (step target r i).0.state.messages
  step_keeps target r i = by (syncs (asked i.line))
    where
      by : (b : Bool) → Keeps r.state.messages (cond b (synced_by r.state i.given) (obeyed r.state i.given.reading (asked i.line))).0.messages
      by true = conversed_keeps r.state i.given
      by false = obeyed_keeps r.state i.given.reading (asked i.line)

  all_keep : (target : Target) (r : Running) (later : List Input) → Keeps r.state.messages (after target r later).state.messages
  all_keep target r [] = λ m c. c
  all_keep target r (i ∷ is) = λ m c. all_keep target (step target r i).0 is m (step_keeps target r i m c)

  then_keep : (target : Target) (r : Running) (earlier later : List Input) → Keeps (after target r earlier).state.messages (after target r (earlier ++ later)).state.messages
  then_keep target r [] later = all_keep target r later
  then_keep target r (i ∷ is) later = then_keep target (step target r i).0 is later

  same_run : (target : Target) (r : Running) (is js : List Input) → is ≡ js → Keeps (after target r js).state.messages (after target r is).state.messages
  same_run target r is js e m c = subst (λ (z : List Input). Contains (after target r z).state.messages m) (sym e) c

  -- contents that hold a run with all messages that lines left
  pub held_keeps : (target : Target) (start : Running) (answered : List Input) (entry c : Contents) (left : Running) → Holds target entry c left
      → Keeps (after target start answered).state.messages left.state.messages → KeepsAnswered target start answered c
  held_keeps target start answered entry c left holds more = record {
    set = left.state.messages;
    is_set = holds.set.messages;
    has = λ earlier later e m at. more m (same_run target start answered (earlier ++ later) e m (then_keep target start earlier later m at));
  }

  leaves_keep : (target : Target) (r left : Running) (in_hand : List Input) → Leaves target r in_hand left → Keeps r.state.messages left.state.messages
  leaves_keep target r left [] h = same_keeps r.state left.state (ap (λ (z : Running). z.state) h)
  leaves_keep target r left (i ∷ is) h = by (syncs (asked i.line)) h
    where
      by : (b : Bool) → MayLeaveIf b target r i.given (asked i.line) left → Keeps r.state.messages left.state.messages
      by true k = talk_keeps target i.given.reading most_requests _ r.state left.state k.turns k.outcome k.talk
      by false (inl stays) = same_keeps r.state left.state (ap (λ (z : Running). z.state) stays)
      by false (inr done) = λ m c. same_keeps (step target r i).0.state left.state (ap (λ (z : Running). z.state) done) m (step_keeps target r i m c)

  pub some_keeps : (target : Target) (start : Running) (answered in_hand : List Input) (entry c : Contents)
      → HoldsSome target entry c (Leaves target (after target start answered) in_hand) → KeepsAnswered target start answered c
  some_keeps target start answered in_hand entry c h = held_keeps target start answered entry c h.left h.holds (leaves_keep target (after target start answered) h.left in_hand h.which)
