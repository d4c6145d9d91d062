-- What a stop leaves of a run: of the lines that were answered, and of the requests.
use Rattle.std.proofs.Common.{◌≡◌, ◌⊎◌, inl, inr, ℕ, List, [], ◌∷◌, ◌++◌, take, Option, None, Some, refl, sym, ap, ◌∙◌, subst, append-nil, append_assoc, arith}
use Rattle.std.proofs.lemmas.List.{take_all}
use Rattle.std.specs.List.{Contains}
use Rattle.std.specs.Io.KnownBytes.{Appends}
use Rattle.budget_ports.specs.Contents.{Contents}
use Rattle.budget_ports.specs.Exchanges.{Adds}
use Rattle.budget_ports.specs.Keeper.{IsAlone}
use Rattle.budget_ports.specs.Readings.{Takes}
use Rattle.device_core.specs.Accepting.{AcceptedAreJoined}
use Rattle.device_sync.specs.declared.target.Target.{Target}
use Rattle.command_lines.specs.Replies.{reply_text_of}
use Rattle.budget_top.specs.declared.words.Plan.{Plan}
use Rattle.budget_top.specs.Asking.{PlansAreAsked}
use Rattle.budget_top.specs.Lines.{whole_lines, all_lines}
use Rattle.budget_top.specs.Limits.{most_input, HasRead, AreDue}
use Rattle.budget_top.specs.Fronts.{AppendsFront}
use Rattle.budget_top.specs.Doing.{Running}
use Rattle.budget_top.specs.Course.{Input, step, after, replies, talks}
use Rattle.budget_top.specs.Seen.{Seen, Holds}
use Rattle.budget_top.specs.Standing.{Entry, Handles, Halts, Cuts, lines_of, readings_of, AreFirst}
use Rattle.budget_top.specs.DeviceRun.{target_of, beginning, entry, HasAnswered, device_statuses, Unopened, Opened, DeviceRun}
use Rattle.budget_top.specs.Serving.{Turn, ComeIn, GoOut}
use Rattle.budget_top.specs.ServeRun.{AtDoor, door_of, with_file, HasServed, ServeRun, Unopened as NotOpened}
use Rattle.budget_top.specs.Outside.{Outside}
use Rattle.budget_top.specs.Ran.{Ran}
use Rattle.budget_top.specs.Acknowledged.{KeepsAnswered, LinesStay, DeviceKeeps, unopened, opened, LinesOfRunStay, RequestsStay, RequestsOfRunStay, AcknowledgedStay}
use Rattle.budget_top.proofs.NotRisen.{by_known}
use Rattle.budget_top.proofs.WithoutFaults.{has_node}
use Rattle.budget_top.proofs.NeverLost.{held_keeps, some_keeps}

replies_last : (target : Target) (r : Running) (is : List Input) (i : Input) → replies target r (is ++ i ∷ []) ≡ replies target r is ++ reply_text_of (step target (after target r is) i).1
replies_last target r [] i = append-nil (reply_text_of (step target r i).1)
replies_last target r (j ∷ is) i =
    ap (λ t. reply_text_of (step target r j).1 ++ t) (replies_last target (step target r j).0 is i)
    ∙ sym (append_assoc (reply_text_of (step target r j).1) (replies target (step target r j).0 is) (reply_text_of (step target (after target (step target r j).0 is) i).1))

whole_front : (old new : Option (List ℕ)) (text : List ℕ) → Appends old new text → AppendsFront old new text
whole_front old new text h = record { front = text; of = ([], append-nil text); written = h }

-- no line behind these
none_behind : (P : List Input → Type 0) (is : List Input) → P is → P (is ++ [])
none_behind P is h = subst P (sym (append-nil is)) h

all_first : (is : List Input) (lines : List (List ℕ)) → lines_of is ≡ lines → AreFirst (lines_of (is ++ [])) lines
all_first is lines e = none_behind (λ js. AreFirst (lines_of js) lines) is ([], append-nil (lines_of is) ∙ e)

module _ (law : AcceptedAreJoined) where
  -- what is kept alone has what the lines left
  alone_keeps : (e : Entry) (answered : List Input) (now : Seen) → IsAlone now.tells now.contents now.left → (now.tells → Holds e.target e.contents now.contents (after e.target e.start answered))
      → (c : Contents) → now.left c → KeepsAnswered e.target e.start answered c
  alone_keeps e answered now alone holds c at =
      let only = alone c at in
      subst (λ (z : Contents). KeepsAnswered e.target e.start answered z) (sym only.1)
      (held_keeps law e.target e.start answered e.contents now.contents (after e.target e.start answered) (holds only.0) (λ m there. there))

  module _ (target : Target) (start : Running) (left new_left : Option (List ℕ)) (read : List ℕ) (has_read : HasRead left new_left read) (old now : Seen) where
    of_handled : (lines : List (List ℕ)) → AreDue new_left read lines → Handles (entry old target start) lines now → IsAlone now.tells now.contents now.left
        → LinesStay target start left new_left old now
    of_handled lines due h alone = record {
      read = read;
      has_read = has_read;
      due = lines;
      are_due = due;
      answered = h.inputs;
      in_hand = [];
      first = all_first h.inputs lines h.lines;
      took = none_behind (λ is. Takes old.readings now.readings (readings_of is)) h.inputs h.took;
      talked = none_behind (λ is. Adds old.exchanges now.exchanges (talks is)) h.inputs h.talk.talked;
      written = whole_front old.taken now.taken (replies target start h.inputs) h.written;
      stays = alone_keeps (entry old target start) h.inputs now alone h.keeper;
    }

    of_halts : (alone : Type 0) (lines : List (List ℕ)) → alone → AreDue new_left read lines → Halts (entry old target start) alone lines now → LinesStay target start left new_left old now
    of_halts alone lines is due h = record {
      read = read;
      has_read = has_read;
      due = lines;
      are_due = due;
      answered = h.inputs;
      in_hand = h.in_hand;
      first = h.first;
      took = h.took;
      talked = h.talked;
      written = whole_front old.taken now.taken (replies target start h.inputs) h.written;
      stays = λ c at. some_keeps law target start h.inputs h.in_hand old.contents c (h.stops is c at);
    }

    of_cuts : (alone : Type 0) (lines : List (List ℕ)) → alone → AreDue new_left read lines → Cuts (entry old target start) alone lines now → LinesStay target start left new_left old now
    of_cuts alone lines is due h =
        let last = reply_text_of (step target (after target start h.inputs) h.last).1 in
        let all : List Input = h.inputs ++ h.last ∷ [] in
        record {
          read = read;
          has_read = has_read;
          due = lines;
          are_due = due;
          answered = all;
          in_hand = [];
          first = none_behind (λ js. AreFirst (lines_of js) lines) all h.first;
          took = none_behind (λ js. Takes old.readings now.readings (readings_of js)) all h.took;
          talked = none_behind (λ js. Adds old.exchanges now.exchanges (talks js)) all h.talk.talked;
          written = record {
            front = replies target start h.inputs ++ h.part;
            of = (h.of.0, append_assoc (replies target start h.inputs) h.part h.of.0 ∙ ap (λ t. replies target start h.inputs ++ t) h.of.1 ∙ sym (replies_last target start h.inputs h.last));
            written = h.written;
          };
          stays = alone_keeps (entry old target start) all now (h.stops is) h.keeper;
        }

  of_answered : (target : Target) (start : Running) (status : ℕ) (left new_left : Option (List ℕ)) (old now : Seen) (alone : Type 0) → alone
      → HasAnswered status left new_left (entry old target start) alone now → LinesStay target start left new_left old now
  of_answered target start status left new_left old now alone is a =
      by_known (LinesStay target start left new_left old now) status device_statuses (
        λ x. let h = a.all_good x in of_handled target start left new_left a.read a.has_read old now (all_lines a.read) (inr (h.at_end, h.within, refl)) h.handled (h.stops is),
        (
          λ x. let h = a.some_refused x in of_handled target start left new_left a.read a.has_read old now (all_lines a.read) (inr (h.at_end, h.within, refl)) h.handled (h.stops is),
          (
            λ x. let h = a.source_failed x in of_handled target start left new_left a.read a.has_read old now (whole_lines a.read) (inl (ap whole_lines (sym (take_all most_input a.read h.within)))) h.handled (h.stops is),
            (
              λ x. of_cuts target start left new_left a.read a.has_read old now alone a.due is a.are_due (a.sink_failed x),
              (
                λ x. of_halts target start left new_left a.read a.has_read old now alone a.due is a.are_due (a.keeper_failed x).halts,
                (
                  λ x. of_halts target start left new_left a.read a.has_read old now alone a.due is a.are_due (a.no_memory x),
                  (λ x. let h = a.too_much x in of_handled target start left new_left a.read a.has_read old now (whole_lines (take most_input a.read)) (inl refl) h.handled (h.stops is), tt),
                ),
              ),
            ),
          ),
        ),
      ) a.known

  of_run : (node : List ℕ) (target : Target) (status : ℕ) (left new_left : Option (List ℕ)) (faults new_faults : ℕ) (old now : Seen) → IsAlone old.tells old.contents old.left
      → DeviceRun node target status left new_left faults new_faults old now → DeviceKeeps node target left new_left old now
  of_run node target status left new_left faults new_faults old now alone run = by run.opening
    where
      by : Unopened status left new_left faults new_faults old now ⊎ Opened node target status left new_left old now → DeviceKeeps node target left new_left old now
      by (inl u) = unopened u.source (λ c at. (alone c (u.stops c at)).1)
      by (inr o) = opened o.first o.had (of_answered target (beginning node target o.first old.contents) status left new_left old now (IsAlone old.tells old.contents old.left) alone o.answered)

  lines_stay : PlansAreAsked → (asked : List (List ℕ)) (status : ℕ) (old now : Outside) → Ran asked status old now → LinesOfRunStay asked old now
  lines_stay plans asked status old now ran = λ plan is mode alone.
      let node = has_node plans asked plan is mode in
      (node.0, node.1, of_run node.0 (target_of plan) status _ _ _ _ old.seen now.seen alone (ran.device plan node.0 is mode node.1))

-- ---- requests

-- none came in, and nothing went out
none_came : (old new : Option (List (List ℕ))) → new ≡ old → ComeIn old new []
none_came old new e = subst (λ (x : Option (List (List ℕ))). ComeIn old x []) (sym e) (by old)
  where
    by : (o : Option (List (List ℕ))) → ComeIn o o []
    by None = tt
    by (Some waiting) = refl

none_went : (old new : Option (List (List ℕ))) → new ≡ old → GoOut old new []
none_went old new e = subst (λ (x : Option (List (List ℕ))). GoOut old x []) (sym e) (by old)
  where
    by : (o : Option (List (List ℕ))) → GoOut o o []
    by None = tt
    by (Some outs) = sym (append-nil outs)

none_in : (t : Turn) → Contains [] t → ⊥
none_in t h = omega (arith, h.1)

of_serving : (plan : Plan) (status : ℕ) (old now : AtDoor) → ServeRun plan status old now → RequestsStay plan old now
of_serving plan status old now run = by run.opening
  where
    by : NotOpened plan status old now ⊎ HasServed plan.token plan.count (with_file plan old.contents) status old now → RequestsStay plan old now
    by (inl u) = record {
      turns = [];
      came = none_came old.waiting now.waiting u.waiting;
      went = none_went old.outs now.outs u.outs;
      served = tt;
      stays = λ c at t ms q within answered. absurd (none_in t within);
    }
    by (inr s) = record { turns = s.turns; came = s.came; went = s.went; served = s.served; stays = s.stops }

requests_stay : (asked : List (List ℕ)) (status : ℕ) (old now : Outside) → Ran asked status old now → RequestsOfRunStay asked old now
requests_stay asked status old now ran = λ plan is mode. of_serving plan status (door_of old) (door_of now) (ran.serve plan is mode)

-- ---- both

pub acknowledged_stay : AcceptedAreJoined → PlansAreAsked → (asked : List (List ℕ)) (status : ℕ) (old now : Outside) → Ran asked status old now → AcknowledgedStay asked old now
acknowledged_stay joined plans asked status old now ran = record {
  lines = lines_stay joined plans asked status old now ran;
  requests = requests_stay asked status old now ran;
}
