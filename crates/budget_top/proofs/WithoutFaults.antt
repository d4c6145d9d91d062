-- How runs end where no call of the outside fails.
use Rattle.std.proofs.Common.{◌≡◌, ◌⊎◌, inl, inr, ◌<◌, ◌≤◌, ◌+◌, ◌-◌, ◌^◌, ℕ, Bool, true, false, ◌==◌, List, [], ◌∷◌, ◌++◌, length, Option, None, Some, Result, Ok, Err, refl, sym, ap, ◌∙◌, subst, arith, append-nil, length-append}
use Rattle.std.proofs.lemmas.Bool.{eq-eqb}
use Rattle.std.specs.Io.KnownBytes.{Appends, Consumes, IsAtEnd}
use Rattle.std.specs.Option.{option_map}
use Rattle.std.specs.Result.{result_ok}
use Rattle.budget_top.specs.declared.words.Mode.{Mode}
use Rattle.budget_top.specs.declared.words.Plan.{Plan}
use Rattle.budget_top.specs.declared.words.WordFault.{WordFault}
use Rattle.budget_top.specs.Line.{Pair}
use Rattle.budget_top.specs.Asking.{IsNodeOf, PlansAreAsked}
use Rattle.budget_top.specs.Words.{planned, planned_mode}
use Rattle.budget_top.specs.Lines.{all_lines}
use Rattle.budget_top.specs.Limits.{most_input}
use Rattle.budget_top.specs.Verdicts.{some_bad, merge_text}
use Rattle.budget_top.specs.MergeRun.{MergeRun, MergesAll, statuses}
use Rattle.budget_ports.specs.Contents.{Contents, Text}
use Rattle.budget_ports.specs.Faults.{count_after, IsUnfailed}
use Rattle.budget_ports.specs.Keeper.{IsAlone}
use Rattle.field_merge.specs.declared.message.Message.{Message}
use Rattle.kept_messages.specs.Records.{kept_set}
use Rattle.device_sync.specs.declared.target.Target.{Target}
use Rattle.budget_top.specs.declared.words.Mode.TheVariants.{Merge, Device}
use Rattle.budget_top.specs.Seen.{Seen, device_records}
use Rattle.budget_top.specs.Standing.{Entry}
use Rattle.budget_top.specs.DeviceRun.{target_of, beginning, entry, HandlesAll, HasAnswered, device_statuses, Unopened, Opened, DeviceRun}
use Rattle.sync_server.specs.Laws.{ConnectionsAreDecided}
use Rattle.sync_server.specs.Outside.{HasFound}
use Rattle.sync_server.specs.Serving.{IsServed, kept_after}
use Rattle.budget_top.specs.Serving.{Turn, AreServed, kept_by, keeper_faults_by, door_faults_by}
use Rattle.budget_top.proofs.Visits.{served_on}
use Rattle.budget_top.proofs.RepliedTo.{get_replies}
use Rattle.budget_top.specs.ServeRun.{AtDoor, door_of, with_file, HasServed, ServeRun, serve_statuses, Unopened as NotOpened}
use Rattle.std.specs.List.{AllByRecursion}
use Rattle.budget_top.specs.Outside.{Outside}
use Rattle.budget_top.specs.Ran.{Ran}
use Rattle.budget_top.specs.Unfailed.{IsInput, Ends, all_good, one_bad, no_memory, Merges, MergesUnfailed, HandlesEach, HandlesUnfailed, IsUnfailedTurn, ServesEach, Serves, all_served, none_served, ServesUnfailed, EndsWell, MergesWell, HandlesWell, EndsUnfailed}
use Rattle.budget_top.proofs.NotRisen.{by_known, is_not, not_so, count_grows, stays_more, rises_by}
use Rattle.budget_top.proofs.Inputs.{named_mode, read_within, read_all, ends_well}
use Rattle.budget_top.proofs.UnfailedPlays.{generates, plays, plays_well}

merges_so : (status : ℕ) (left new_left taken new_taken : Option (List ℕ)) (input : List ℕ) → MergeRun status left new_left taken new_taken → IsInput left input
    → (status ≡ 4 → ⊥) → (status ≡ 5 → ⊥) → Ends status (λ has_bad. Merges has_bad input new_left taken new_taken)
merges_so status left new_left taken new_taken input run h not_source not_sink =
    by_known (Ends status (λ has_bad. Merges has_bad input new_left taken new_taken)) status statuses (
      λ e. all_good e (of false (run.all_good e)),
      (
        λ e. one_bad e (of true (run.some_refused e)),
        (
          λ e. absurd (not_source e),
          (
            λ e. absurd (not_sink e),
            (
              λ e. no_memory e,
              (λ e. absurd (omega (arith, (run.too_much e).past, read_within left new_left input run.read h run.reads)), tt),
            ),
          ),
        ),
      ),
    ) run.known
  where
    of : (has_bad : Bool) → MergesAll has_bad new_left run.read run.written → Merges has_bad input new_left taken new_taken
    of has_bad m =
        let all : run.read ≡ input = read_all left new_left input run.read h run.reads m.at_end in
        record {
          at_end = m.at_end;
          bad = ap (λ (x : List ℕ). some_bad (all_lines x)) (sym all) ∙ m.bad;
          text = subst (λ (x : List ℕ). Appends taken new_taken x) (m.text ∙ ap merge_text all) run.writes;
        }

merges : (asked : List (List ℕ)) (status : ℕ) (old now : Outside) → Ran asked status old now → MergesUnfailed asked status old now
merges asked status old now ran = λ plan input is mode input_is source sink.
    let named = named_mode asked plan _ is mode in
    let run = ran.merge named in
    merges_so status _ _ _ _ input run input_is (is_not status 4 _ _ source ran.source)
    (λ five. is_not status 5 _ _ sink (ran.sink (λ three. omega (arith, three, five))) five)

-- ---- device

-- all were handled, of the whole input
each_of : (has_bad : Bool) (left new_left : Option (List ℕ)) (e : Entry) (alone : Type 0) (read input : List ℕ) (now : Seen) → IsInput left input → Consumes left new_left read
    → HandlesAll has_bad new_left e alone read now → HandlesEach has_bad input new_left e now
each_of has_bad left new_left e alone read input now h reads all =
    let whole = subst (λ (x : List ℕ). HandlesAll has_bad new_left e alone x now) (read_all left new_left input read h reads all.at_end) all in
    record { at_end = whole.at_end; handled = whole.handled; bad = whole.bad }

answers_so : (status : ℕ) (left new_left : Option (List ℕ)) (e : Entry) (alone : Type 0) (input : List ℕ) (now : Seen) → IsInput left input
    → (status ≡ 4 → ⊥) → (status ≡ 5 → ⊥) → (status ≡ 6 → ⊥) → HasAnswered status left new_left e alone now → Ends status (λ has_bad. HandlesEach has_bad input new_left e now)
answers_so status left new_left e alone input now h not_source not_sink not_keeper a =
    by_known (Ends status (λ has_bad. HandlesEach has_bad input new_left e now)) status device_statuses (
      λ x. all_good x (each_of false left new_left e alone a.read input now h a.has_read.reads (a.all_good x)),
      (
        λ x. one_bad x (each_of true left new_left e alone a.read input now h a.has_read.reads (a.some_refused x)),
        (
          λ x. absurd (not_source x),
          (
            λ x. absurd (not_sink x),
            (
              λ x. absurd (not_keeper x),
              (
                λ x. no_memory x,
                (λ x. absurd (omega (arith, (a.too_much x).past, read_within left new_left input a.read h a.has_read.reads)), tt),
              ),
            ),
          ),
        ),
      ),
    ) a.known

-- one set is kept
one_set : {r : Result (List Message) ℕ} {ms ns : List Message} → r ≡ Ok ms → r ≡ Ok ns → ms ≡ ns
one_set {r} {ms} {ns} a b = cc

no_fault : {r : Result (List Message) ℕ} {ms : List Message} {index : ℕ} → r ≡ Ok ms → r ≡ Err index → ⊥
no_fault {r} {ms} {index} a b = cc

handles_so : (node : List ℕ) (target : Target) (status : ℕ) (left new_left : Option (List ℕ)) (faults new_faults : ℕ) (old now : Seen) (first : List Message) (input : List ℕ)
    → DeviceRun node target status left new_left faults new_faults old now → now.tells → kept_set (device_records old.contents) ≡ Ok first → IsInput left input
    → (status ≡ 4 → ⊥) → (status ≡ 5 → ⊥) → (status ≡ 6 → ⊥) → Ends status (λ has_bad. HandlesEach has_bad input new_left (entry old target (beginning node target first old.contents)) now)
handles_so node target status left new_left faults new_faults old now first input run tells has h not_source not_sink not_keeper = by run.opening
  where
    e : List Message → Entry
    e ms = entry old target (beginning node target ms old.contents)

    by : Unopened status left new_left faults new_faults old now ⊎ Opened node target status left new_left old now → Ends status (λ has_bad. HandlesEach has_bad input new_left (e first) now)
    by (inl u) = elim u.how [ inl bad ↦ absurd (no_fault has (bad.1.first_bad tells)) | inr stop ↦ elim stop.0 [ inl six ↦ absurd (not_keeper six) | inr seven ↦ no_memory seven ] ]
    by (inr o) =
        answers_so status left new_left (e first) (IsAlone old.tells old.contents old.left) input now h not_source not_sink not_keeper
        (subst (λ (ms : List Message). HasAnswered status left new_left (e ms) (IsAlone old.tells old.contents old.left) now) (one_set (o.has tells) has) o.answered)

-- a plan of a device has a node
pub has_node : PlansAreAsked → (asked : List (List ℕ)) (plan : Plan) → planned asked ≡ Ok plan → plan.mode ≡ Device → (node : List ℕ) × (plan.node ≡ Some node)
has_node law asked plan is mode = let p = (law asked plan).0 is in by p.0 plan.node refl p.2.node
  where
    by : (pairs : List Pair) (o : Option (List ℕ)) → plan.node ≡ o → IsNodeOf pairs plan.mode o → (node : List ℕ) × (plan.node ≡ Some node)
    by pairs None e of = absurd (of.1 mode)
    by pairs (Some node) e of = (node, e)

handles : PlansAreAsked → (asked : List (List ℕ)) (status : ℕ) (old now : Outside) → Ran asked status old now → HandlesUnfailed asked status old now
handles law asked status old now ran = λ plan first input is mode tells has input_is source sink keeper.
    let node = has_node law asked plan is mode in
    let named = named_mode asked plan Device is mode in (
      node.0,
      node.1,
      handles_so node.0 (target_of plan) status _ _ _ _ old.seen now.seen first input (ran.device plan node.0 is mode node.1) tells has input_is (is_not status 4 _ _ source ran.source)
          (λ five. is_not status 5 _ _ sink (ran.sink (λ three. omega (arith, three, five))) five)
          (is_not status 6 _ _ keeper (ran.keeper Device named refl)),
    )

-- ---- serve

door_grows : (a : ℕ) (ts : List Turn) (b : ℕ) → a < 2 ^ 64 - 1 → a ≤ b → a ≤ door_faults_by b ts
door_grows a [] b below least = least
door_grows a (t ∷ ts) b below least =
    door_grows a ts (count_after t.visit.close_failed (count_after t.visit.door_failed b)) below (count_grows t.visit.close_failed a _ below (count_grows t.visit.door_failed a b below least))

door_rises : (a : ℕ) (ts : List Turn) (b : ℕ) → a < 2 ^ 64 - 1 → a < b → a < door_faults_by b ts
door_rises a [] b below more = more
door_rises a (t ∷ ts) b below more =
    door_rises a ts (count_after t.visit.close_failed (count_after t.visit.door_failed b)) below (stays_more t.visit.close_failed a _ below (stays_more t.visit.door_failed a b below more))

keeper_rises : (a : ℕ) (ts : List Turn) (b : ℕ) → a < 2 ^ 64 - 1 → a < b → a < keeper_faults_by b ts
keeper_rises a [] b below more = more
keeper_rises a (t ∷ ts) b below more = keeper_rises a ts (count_after t.visit.keeper_failed b) below (stays_more t.visit.keeper_failed a b below more)

-- a count that is as it was in the end was so at each connection
keeper_at : (failed : Bool) (k : ℕ) (ts : List Turn) → k < 2 ^ 64 - 1 → keeper_faults_by (count_after failed k) ts ≡ k → (failed ≡ false) × (keeper_faults_by k ts ≡ k)
keeper_at true k ts below e = absurd (omega (arith, e, keeper_rises k ts (count_after true k) below (rises_by k below)))
keeper_at false k ts below e = (refl, e)

door_at : (close failed : Bool) (d : ℕ) (ts : List Turn) → d < 2 ^ 64 - 1 → door_faults_by (count_after close (count_after failed d)) ts ≡ d
    → (failed ≡ false) × (close ≡ false) × (door_faults_by d ts ≡ d)
door_at close true d ts below e = absurd (omega (arith, e, door_rises d ts (count_after close (count_after true d)) below (stays_more close d (count_after true d) below (rises_by d below))))
door_at true false d ts below e = absurd (omega (arith, e, door_rises d ts (count_after true d) below (rises_by d below)))
door_at false false d ts below e = (refl, refl, e)

quiet_turns : (ts : List Turn) (k d : ℕ) → k < 2 ^ 64 - 1 → d < 2 ^ 64 - 1 → keeper_faults_by k ts ≡ k → door_faults_by d ts ≡ d → AllByRecursion IsUnfailedTurn ts
quiet_turns [] k d below under e f = tt
quiet_turns (t ∷ ts) k d below under e f =
    let a = keeper_at t.visit.keeper_failed k ts below e in
    let b = door_at t.visit.close_failed t.visit.door_failed d ts under f in
    (record { keeper = a.0; door = b.0; close = b.1 }, quiet_turns ts k d below under a.1 b.2)

-- the connection at a place was served over what the earlier ones left, and no call failed at it
served_at : (tells : Type 0) (token : Text) (k : Contents) (earlier later : List Turn) (t : Turn) → tells → AreServed tells token k (earlier ++ t ∷ later) → IsServed token (HasFound (kept_by k earlier)) t.visit t.end
served_at tells token k [] later t is h = served_on token (λ q found. tells → HasFound k q found) (HasFound k) (λ q found f. f is) t.visit t.end h.0
served_at tells token k (s ∷ earlier) later t is h = served_at tells token (kept_after s.visit.verdict k) earlier later t is h.1

unfailed_at : (earlier later : List Turn) (t : Turn) → AllByRecursion IsUnfailedTurn (earlier ++ t ∷ later) → IsUnfailedTurn t
unfailed_at [] later t h = h.0
unfailed_at (s ∷ earlier) later t h = unfailed_at earlier later t h.1

serves_so : ConnectionsAreDecided → (plan : Plan) (status : ℕ) (old now : AtDoor) → ServeRun plan status old now → (status ≡ 5 → ⊥) → IsUnfailed old.keeper_faults now.keeper_faults → IsUnfailed old.door_faults now.door_faults
    → Serves plan status old now
serves_so law plan status old now run not_sink keeper door = by run.opening
  where
    each : (s : HasServed plan.token plan.count (with_file plan old.contents) 0 old now) → ServesEach plan old now
    each s = record {
      served = s;
      unfailed = quiet_turns s.turns old.keeper_faults old.door_faults keeper.below door.below (sym s.keeper_faults ∙ keeper.same) (sym s.door_faults ∙ door.same);
      replied = λ is earlier later t ms q cut accepts.
          let quiet = unfailed_at earlier later t (subst (AllByRecursion IsUnfailedTurn) cut
          (quiet_turns s.turns old.keeper_faults old.door_faults keeper.below door.below (sym s.keeper_faults ∙ keeper.same) (sym s.door_faults ∙ door.same))) in
          get_replies law plan.token (kept_by (with_file plan old.contents) earlier) t.visit t.end ms q accepts quiet.keeper quiet.door
          (served_at now.tells plan.token (with_file plan old.contents) earlier later t is
          (subst (λ (ts : List Turn). AreServed now.tells plan.token (with_file plan old.contents) ts) cut s.served));
    }

    by : NotOpened plan status old now ⊎ HasServed plan.token plan.count (with_file plan old.contents) status old now → Serves plan status old now
    by (inl u) = elim u.known [ inl six ↦ absurd (is_not status 6 _ _ keeper u.keeper_faults six) | inr seven ↦ none_served seven ]
    by (inr s) =
        by_known (Serves plan status old now) status serve_statuses (
          λ x. all_served x (each (subst (λ (n : ℕ). HasServed plan.token plan.count (with_file plan old.contents) n old now) x s)),
          (
            λ x. absurd (not_sink x),
            (λ x. absurd (not_so (status == 8) old.door_faults (door_faults_by old.door_faults s.turns) now.door_faults door (door_grows old.door_faults s.turns old.door_faults door.below (omega arith)) s.door_faults (eq-eqb status 8 x)), tt),
          ),
        ) s.known

serves : ConnectionsAreDecided → (asked : List (List ℕ)) (status : ℕ) (old now : Outside) → Ran asked status old now → ServesUnfailed asked status old now
serves law asked status old now ran = λ plan is mode sink keeper door.
    serves_so law plan status (door_of old) (door_of now) (ran.serve plan is mode) (λ five. is_not status 5 _ _ sink (ran.sink (λ three. omega (arith, three, five))) five) keeper door

-- ---- whatever the source tells

device_well : (node : List ℕ) (target : Target) (status : ℕ) (left new_left : Option (List ℕ)) (faults new_faults : ℕ) (old now : Seen) (first : List Message)
    → DeviceRun node target status left new_left faults new_faults old now → now.tells → kept_set (device_records old.contents) ≡ Ok first
    → (status ≡ 4 → ⊥) → (status ≡ 5 → ⊥) → (status ≡ 6 → ⊥) → EndsWell status
device_well node target status left new_left faults new_faults old now first run tells has not_source not_sink not_keeper = by run.opening
  where
    by : Unopened status left new_left faults new_faults old now ⊎ Opened node target status left new_left old now → EndsWell status
    by (inl u) = elim u.how [ inl bad ↦ absurd (no_fault has (bad.1.first_bad tells)) | inr stop ↦ elim stop.0 [ inl six ↦ absurd (not_keeper six) | inr seven ↦ ends_well status 7 refl seven ] ]
    by (inr o) =
        by_known (EndsWell status) status device_statuses
        (ends_well status 0 refl, (ends_well status 1 refl, (λ x. absurd (not_source x), (λ x. absurd (not_sink x), (λ x. absurd (not_keeper x), (ends_well status 7 refl, (ends_well status 9 refl, tt))))))) o.answered.known

merges_well : (asked : List (List ℕ)) (status : ℕ) (old now : Outside) → Ran asked status old now → MergesWell asked status old now
merges_well asked status old now ran = λ plan is mode source sink.
    let run = ran.merge (named_mode asked plan Merge is mode) in
    by_known (EndsWell status) status statuses (
      ends_well status 0 refl,
      (
        ends_well status 1 refl,
        (
          λ x. absurd (is_not status 4 _ _ source ran.source x),
          (λ x. absurd (is_not status 5 _ _ sink (ran.sink (λ three. omega (arith, three, x))) x), (ends_well status 7 refl, (ends_well status 9 refl, tt))),
        ),
      ),
    ) run.known

handles_well : PlansAreAsked → (asked : List (List ℕ)) (status : ℕ) (old now : Outside) → Ran asked status old now → HandlesWell asked status old now
handles_well law asked status old now ran = λ plan first is mode tells has source sink keeper.
    let node = has_node law asked plan is mode in
    device_well node.0 (target_of plan) status _ _ _ _ old.seen now.seen first (ran.device plan node.0 is mode node.1) tells has (is_not status 4 _ _ source ran.source)
    (λ five. is_not status 5 _ _ sink (ran.sink (λ three. omega (arith, three, five))) five)
    (is_not status 6 _ _ keeper (ran.keeper Device (named_mode asked plan Device is mode) refl))

-- ---- each mode

pub ends_unfailed : PlansAreAsked → ConnectionsAreDecided → (asked : List (List ℕ)) (status : ℕ) (old now : Outside) → Ran asked status old now → EndsUnfailed asked status old now
ends_unfailed plans connections asked status old now ran = record {
  merge = merges asked status old now ran;
  device = handles plans asked status old now ran;
  serve = serves connections asked status old now ran;
  generate = generates asked status old now ran;
  world = plays asked status old now ran;
  merge_untold = merges_well asked status old now ran;
  device_untold = handles_well plans asked status old now ran;
  world_untold = plays_well asked status old now ran;
}
