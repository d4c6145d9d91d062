-- A line that syncs.
use Rattle.std.proofs.Common.{◌≡◌, ◌≢◌, ◌⊎◌, inl, inr, true, false, cond, ℕ, ◌-◌, ◌/◌, ◌<◌, ◌≤◌, nat_lt, List, [], ◌++◌, length, map, refl, sym, ap, ap₂, ◌∙◌, subst, Bool, Option, None, Some, Result, Ok, Err, OnOk, OnErr, Ordering, Less, Equal, Greater, arith}
use Rattle.std.specs.Prelude.{IfOk, IfErr}
use Rattle.std.specs.Ordering.{is_eq, eq_by_cmp}
use Rattle.std.specs.Cmp.{tied_itself}
use Rattle.std.proofs.lemmas.Bool.{cases_Bool, ltb-true, ltb-false, lt-ltb, le-ltb}
use Rattle.std.specs.FinMap.{FinMap, get, insert, get-insert}
use Rattle.hybrid_clock.specs.Stamp.{stamp_text, window}
use Rattle.hybrid_clock.specs.declared.clock.ClockFault.TheVariants.{Beyond}
use Rattle.budget_ports.specs.Faults.{count_after}
use Rattle.budget_ports.specs.Contents.{Contents, Text, text_cmp}
use Rattle.budget_ports.specs.Exchanges.{Exchange}
use Rattle.budget_ports.specs.Keeper.{has_failed, IsAlone}
use Rattle.budget_ports.specs.declared.keeper.PortFault.{PortFault}
use Rattle.budget_ports.specs.declared.keeper.PortFault.TheVariants.{NoMemory as NoRoom}
use Rattle.budget_ports.proofs.Places.{text_total, text_same}
use Rattle.device_core.specs.declared.edit.LineRefusal.TheVariants.{Clock as OfClock}
use Rattle.device_core.specs.Device.{State}
use Rattle.device_sync.specs.declared.target.Target.{Target}
use Rattle.device_sync.specs.declared.fault.SyncFault.{SyncFault}
use Rattle.device_sync.specs.declared.fault.SyncFault.TheVariants.{Link, BadReply, Refused, OutOfSync, Clock, Keeper, NoMemory}
use Rattle.device_sync.specs.declared.fault.Synced.{Synced}
use Rattle.device_sync.specs.Requests.{first_since}
use Rattle.device_sync.specs.Talk.{Outcome, going_on, agreed, out_of_sync, not_taken, refused, bad_reply, Turn, exchange_of, talked, most_requests}
use Rattle.device_sync.specs.Laws.{TalksAreTold}
use Rattle.device_sync.specs.Sync.{synced_name, told, IsCutOff, IsCounted, MayBeLeft, HasTalked, fails_keeper, IfUsable}
use Rattle.device_sync.specs.Sync.{IsAnswered as IsAnsweredSo, Carries as CarriesOn, fails_link as loses_link}
use Rattle.command_lines.specs.declared.command.Command.{Command}
use Rattle.command_lines.specs.declared.command.Command.TheVariants.{Sync}
use Rattle.command_lines.specs.Replies.{synced, reply_text_of}
use Rattle.budget_top.specs.declared.answer.Answer.{Answer}
use Rattle.budget_top.specs.Session.{is_refused}
use Rattle.budget_top.specs.Doing.{Given, Running, syncs, IsWithin, TalksTo, conversed, sync_reply, last_synced, goes_on, IsRest, made, done, IsWholeTalk, FindsIf, HasStayedIf, MayLeave, MayLeaveIf, HasMadeNewIf}
use Rattle.budget_top.specs.Seen.{device_group, HoldsSet, Holds}
use Rattle.budget_top.specs.Handling.{IsAnswered, IsUnanswered, HoldsSome}
use Rattle.budget_top.specs.SyncSteps.{HasReply, reply_of, IsTold}
use Rattle.budget_top.proofs.Folding.{adds_none}
use Rattle.budget_top.proofs.Plain.{alone_at, silent, moved, set_as, plain_unanswered}

-- ---- what a sync comes to that has a reply

-- the text of the last sync after it
abbrev last_text : Result Synced SyncFault → State → Option Text → Option Text
last_text (Ok done) now text = Some (stamp_text now.clock)
last_text (Err fault) now text = text

-- its reply is that of the outcome, and so is all else
record Closes (target : Target) (s end : State) (turns : List Turn) (late : List Exchange) (now : State) (ended : Result Synced SyncFault) (o : Outcome) : Type 0 where
  rest : IsRest target end o late
  state : now ≡ end
  reply : reply_of ended ≡ sync_reply (length turns) (length end.messages - length s.messages) o
  link : loses_link ended ≡ goes_on o
  text : (x : Option Text) → last_text ended now x ≡ last_synced end o x

closed : (target : Target) (s end : State) (turns : List Turn) (late : List Exchange) (now : State) (ended : Result Synced SyncFault) (o how : Outcome) → o ≡ how
    → Closes target s end turns late now ended how → Closes target s end turns late now ended o
closed target s end turns late now ended o how is h = let P : Outcome → Type 0 = λ x. Closes target s end turns late now ended x in subst P (sym is) h

module _ (target : Target) (s end : State) (turns : List Turn) (late : List Exchange) (now : State) (o : Outcome) where
  closing : (ended : Result Synced SyncFault) → HasReply ended → IsAnsweredSo target end o late now (IsCounted s turns end) ended → Closes target s end turns late now ended o
  closing (Ok done) has (is, (none, (same, counted))) = closed target s end turns late now (Ok done) o agreed is (record {
    rest = none;
    state = same;
    reply = ap₂ synced counted.0 counted.1;
    link = refl;
    text = λ x. ap (λ (t : State). Some (stamp_text t.clock)) same;
  })
  closing (Err Link) has (since, (is, (none, same))) = closed target s end turns late now (Err Link) o (going_on since) is (record { rest = none; state = same; reply = refl; link = refl; text = λ x. refl })
  closing (Err (BadReply at)) has (is, (none, same)) = closed target s end turns late now (Err (BadReply at)) o (bad_reply at) is (record { rest = none; state = same; reply = refl; link = refl; text = λ x. refl })
  closing (Err (Refused status)) has (is, (none, same)) = closed target s end turns late now (Err (Refused status)) o (refused status) is (record { rest = none; state = same; reply = refl; link = refl; text = λ x. refl })
  closing (Err (OutOfSync mine theirs)) has (is, (none, same)) = closed target s end turns late now (Err (OutOfSync mine theirs)) o (out_of_sync mine theirs) is (record { rest = none; state = same; reply = refl; link = refl; text = λ x. refl })
  closing (Err (Clock fault)) has (is, (none, same)) = closed target s end turns late now (Err (Clock fault)) o (not_taken (OfClock fault)) is (record { rest = none; state = same; reply = refl; link = refl; text = λ x. refl })
  closing (Err Keeper) has h = absurd has
  closing (Err NoMemory) has h = absurd has

  -- or it was cut off
  record Cut (ended : Result Synced SyncFault) (T : Type 0) : Type 0 where
    cut : IsCutOff target end o late
    link : loses_link ended ≡ false
    texts : T

  either : (ended : Result Synced SyncFault) (tells T : Type 0) → IsAnsweredSo target end o late now (IsCounted s turns end) ended → (tells → OnErr ended T) → HasReply ended ⊎ Cut ended (tells → T)
  either (Ok done) tells T h same = inl tt
  either (Err Link) tells T h same = inl tt
  either (Err (BadReply at)) tells T h same = inl tt
  either (Err (Refused status)) tells T h same = inl tt
  either (Err (OutOfSync mine theirs)) tells T h same = inl tt
  either (Err (Clock fault)) tells T h same = inl tt
  either (Err Keeper) tells T h same = inr (record { cut = h; link = refl; texts = same })
  either (Err NoMemory) tells T h same = inr (record { cut = h; link = refl; texts = same })

-- ---- what the keeper holds

equal_is : (o : Ordering) → is_eq o ≡ true → o ≡ Equal
equal_is Less h = cc
equal_is Equal h = refl
equal_is Greater h = cc

-- the text of a name is this one, and the others are as they were
record Retexted (name : Text) (before after : Contents) (value : Option Text) : Type 0 where
  own : get after.texts name ≡ value
  others : (other : Text) → other ≢ name → get after.texts other ≡ get before.texts other

text_kept : (name : Text) (before after : Contents) → after.texts ≡ before.texts → Retexted name before after (get before.texts name)
text_kept name before after same = record {
  own = ap (λ (m : FinMap text_cmp Text). get m name) same;
  others = λ other apart. ap (λ (m : FinMap text_cmp Text). get m other) same;
}

get_own : (m : FinMap text_cmp Text) (name text : Text) → get (insert m name text) name ≡ Some text
get_own m name text = get-insert text_total m name text name ∙ ap (λ (o : Ordering). cond (is_eq o) (Some text) (get m name)) (tied_itself text_total name)

get_other : (m : FinMap text_cmp Text) (name text other : Text) → other ≢ name → get (insert m name text) other ≡ get m other
get_other m name text other apart = get-insert text_total m name text other ∙ by (eq_by_cmp text_cmp other name) refl
  where
    by : (b : Bool) → eq_by_cmp text_cmp other name ≡ b → cond b (Some text) (get m other) ≡ get m other
    by true h = absurd (apart (text_same other name (equal_is _ h)))
    by false h = refl

text_put : (name text : Text) (before after : Contents) → after.texts ≡ insert before.texts name text → Retexted name before after (Some text)
text_put name text before after is = record {
  own = ap (λ (m : FinMap text_cmp Text). get m name) is ∙ get_own before.texts name text;
  others = λ other apart. ap (λ (m : FinMap text_cmp Text). get m other) is ∙ get_other before.texts name text other apart;
}

retexted : (name : Text) (before after : Contents) (ended : Result Synced SyncFault) (now : State) → OnErr ended (after.texts ≡ before.texts) → OnOk ended (after.texts ≡ insert before.texts name (stamp_text now.clock))
    → Retexted name before after (last_text ended now (get before.texts name))
retexted name before after (Ok done) now same put = text_put name (stamp_text now.clock) before after put
retexted name before after (Err fault) now same put = text_kept name before after same

-- the group keeps another set, and another text tells of the last sync
holds_on : (target : Target) (entry before after : Contents) (s end : State) (r new : Running) (value : Option Text) → r.state ≡ s → Holds target entry before r
    → CarriesOn device_group s.messages end.messages before after → Retexted (synced_name target) before after value → new.state ≡ end → new.synced ≡ value → Holds target entry after new
holds_on target entry before after s end r new value rs h carries texts ends synced_so = record {
  set = set_as (record entry { texts = after.texts }) after end.messages new.state.messages (ap (λ (x : State). x.messages) (sym ends))
      (carries (record entry { texts = before.texts }) (set_as (record entry { texts = before.texts }) before r.state.messages s.messages (ap (λ (x : State). x.messages) rs) h.set));
  texts = λ name other. texts.others name other ∙ h.texts name other;
  synced = texts.own ∙ sym synced_so;
}

-- no reading is both
apart : {P : Type 0} (reading : ℕ) → window ≤ reading / 60_000 → reading / 60_000 < window → P
apart reading over within = absurd (omega (arith, over, within))

-- what a talk leaves
pub talked_so : TalksAreTold → (target : Target) (s : State) (given : Given) (end : State) (outcome : Outcome) → IsWithin given → TalksTo target given s given.turns end outcome → conversed s given ≡ (end, outcome)
talked_so law target s given end outcome within talk =
    ap (λ (b : Bool). cond b (talked given.reading most_requests (first_since given.since given.reading) s (map (λ (x : Turn). x.got) given.turns)) (s, not_taken (OfClock (Beyond given.reading)))) (lt-ltb (given.reading / 60_000) window within)
    ∙ law target given.reading most_requests (first_since given.since given.reading) s end given.turns outcome talk

pub late_so : (s : State) (given : Given) → window ≤ given.reading / 60_000 → conversed s given ≡ (s, not_taken (OfClock (Beyond given.reading)))
late_so s given over =
    ap (λ (b : Bool). cond b (talked given.reading most_requests (first_since given.since given.reading) s (map (λ (x : Turn). x.got) given.turns)) (s, not_taken (OfClock (Beyond given.reading)))) (le-ltb (given.reading / 60_000) window over)

-- ---- a sync at a reading within the window

module _ (law : TalksAreTold) (target : Target) (reading : ℕ) (s now : State) (ended : Result Synced SyncFault) (xs ys : Option (List Exchange)) (n m : ℕ) (told_by tells : Type 0)
    (before after : Contents) (left_by left : Contents → Type 0) (within : reading / 60_000 < window)
    (h : HasTalked target device_group reading s (told xs told_by before left_by) (told ys tells after left) now ended)
    (put : tells → OnOk ended (after.texts ≡ insert before.texts (synced_name target) (stamp_text now.clock))) (same : tells → OnErr ended (after.texts ≡ before.texts))
    (count : m ≡ count_after (loses_link ended) n) (may : (k : Contents) → left k → left_by k ⊎ told_by) where
  abbrev given : Given
  given = record { reading = reading; since = h.since; turns = h.conversed.turns; late = h.conversed.late }

  abbrev end : State
  end = h.conversed.end

  abbrev outcome : Outcome
  outcome = h.conversed.outcome

  abbrev name : Text
  name = synced_name target

  is : conversed s given ≡ (end, outcome)
  is = talked_so law target s given end outcome within h.conversed.talk

  is_of : (r : Running) → r.state ≡ s → conversed r.state given ≡ (end, outcome)
  is_of r rs = ap (λ (x : State). conversed x given) rs ∙ is

  closes_so : HasReply ended → Closes target s end h.conversed.turns h.conversed.late now ended outcome
  closes_so has = closing target s end h.conversed.turns h.conversed.late now outcome ended has h.conversed.answered

  whole_so : HasReply ended → IsWholeTalk target s given
  whole_so has =
      let P : State × Outcome → Type 0 = λ d. TalksTo target given s h.conversed.turns d.0 d.1 in
      let Q : State × Outcome → Type 0 = λ d. IsRest target d.0 d.1 h.conversed.late in
      record {
        beyond = λ over. apart reading over within;
        talk = λ w. subst P (sym is) h.conversed.talk;
        rest = λ w. subst Q (sym is) (closes_so has).rest;
      }

  retexted_so : tells → HasReply ended → Retexted name before after (last_synced end outcome (get before.texts name))
  retexted_so t has =
      let P : Option Text → Type 0 = λ v. Retexted name before after v in
      subst P ((closes_so has).text (get before.texts name)) (retexted name before after ended now (same t) (put t))

  -- what a run then holds
  abbrev run_after : Running → Running
  run_after r = (done target r given (Ok Sync)).0

  then_synced : (r : Running) → r.state ≡ s → get before.texts name ≡ r.synced → (run_after r).synced ≡ last_synced end outcome (get before.texts name)
  then_synced r rs held = ap (λ (d : State × Outcome). last_synced d.0 d.1 r.synced) (is_of r rs) ∙ ap (last_synced end outcome) (sym held)

  holds_then : (entry : Contents) (r : Running) → r.state ≡ s → tells → HasReply ended → Holds target entry before r → Holds target entry after (run_after r)
  holds_then entry r rs t has held =
      holds_on target entry before after s end r (run_after r) (last_synced end outcome (get before.texts name)) rs held (h.conversed.kept t) (retexted_so t has)
      (ap (λ (d : State × Outcome). d.0) (is_of r rs)) (then_synced r rs held.synced)

  finds : (entry : Contents) (r : Running) → tells → Holds target entry before r → IsWithin given → h.since ≡ r.synced
  finds entry r t held w = h.found t ∙ held.synced

  failed_so : HasReply ended → m ≡ count_after (goes_on outcome) n
  failed_so has = count ∙ ap (λ (b : Bool). count_after b n) (closes_so has).link

  synced_answered : (text : List ℕ) (is_bad : Bool) → HasReply ended → text ≡ reply_text_of (reply_of ended) → is_bad ≡ is_refused (reply_of ended)
      → IsAnswered target reading (Ok Sync) s now text is_bad xs ys n m tells before after
  synced_answered text is_bad has texts bad =
      let replies : reply_of ended ≡ (made target s given (Ok Sync)).1 =
      (closes_so has).reply ∙ ap (λ (d : State × Outcome). sync_reply (length h.conversed.turns) (length d.0.messages - length s.messages) d.1) (sym is) in
      record {
        given = given;
        took = refl;
        handled = record {
          state = (closes_so has).state ∙ ap (λ (d : State × Outcome). d.0) (sym is);
          is_text = texts ∙ ap reply_text_of replies;
          is_bad = bad ∙ ap is_refused replies;
        };
        talked = h.conversed.adds;
        whole = whole_so has;
        failed = failed_so has ∙ ap (λ (d : State × Outcome). count_after (goes_on d.1) n) (sym is);
        keeper = λ t entry r rs held. (holds_then entry r rs t has held, finds entry r t held);
      }

  -- no reply

  stayed_cut : (r : Running) → r.state ≡ s → Cut target s end h.conversed.turns h.conversed.late now outcome ended (tells → after.texts ≡ before.texts)
      → (kept : Running) × HasStayedIf true target r given kept n m × (tells → (entry : Contents) → Holds target entry before r → Holds target entry after kept × FindsIf true given r.synced)
  stayed_cut r rs cut =
      let P : State → Type 0 = λ x. TalksTo target given x h.conversed.turns end outcome in (
        record { state = end; synced = r.synced },
        inl (record {
          outcome = outcome;
          talk = subst P (sym rs) h.conversed.talk;
          cut = cut.cut;
          same = refl;
          unfailed = count ∙ ap (λ (b : Bool). count_after b n) cut.link;
        }),
        λ t entry held. (
          holds_on target entry before after s end r (record { state = end; synced = r.synced }) (get before.texts name) rs held (h.conversed.kept t) (text_kept name before after (cut.texts t)) refl (sym held.synced),
          finds entry r t held,
        ),
      )

  stayed_untold : (r : Running) → r.state ≡ s → HasReply ended
      → (kept : Running) × HasStayedIf true target r given kept n m × (tells → (entry : Contents) → Holds target entry before r → Holds target entry after kept × FindsIf true given r.synced)
  stayed_untold r rs has =
      let P : State → Type 0 = λ x. IsWholeTalk target x given in (
        run_after r,
        inr (record {
          whole = subst P (sym rs) (whole_so has);
          state = refl;
          synced = refl;
          failed = failed_so has ∙ ap (λ (d : State × Outcome). count_after (goes_on d.1) n) (sym (is_of r rs));
        }),
        λ t entry held. (holds_then entry r rs t has held, finds entry r t held),
      )

  -- what a stop may leave
  abbrev Left : Contents → Type 0
  Left c = MayBeLeft target device_group reading (first_since h.since reading) s (map exchange_of h.conversed.turns ++ h.conversed.late) before c

  left_turns : (c : Contents) (l : Left c) → (c.texts ≡ before.texts) ⊎ (l.outcome ≡ agreed) × (c.texts ≡ insert before.texts name (stamp_text l.end.clock))
      → (entry : Contents) (r : Running) → r.state ≡ s → h.since ≡ r.synced → Holds target entry before r → HoldsSome target entry c (MayLeave target r given (Ok Sync))
  left_turns c l (inl kept) entry r rs found held =
      let P : State → Type 0 = λ x. TalksTo target given x l.turns l.end l.outcome in
      record {
        left = record { state = l.end; synced = r.synced };
        holds = holds_on target entry before c s l.end r (record { state = l.end; synced = r.synced }) (get before.texts name) rs held l.kept (text_kept name before c kept) refl (sym held.synced);
        which = record { found = λ w. found; turns = l.turns; later = l.later; are_first = l.are_first; outcome = l.outcome; talk = subst P (sym rs) l.talk; texts = inl refl };
      }
  left_turns c l (inr put_so) entry r rs found held =
      let P : State → Type 0 = λ x. TalksTo target given x l.turns l.end l.outcome in
      record {
        left = record { state = l.end; synced = Some (stamp_text l.end.clock) };
        holds = holds_on target entry before c s l.end r (record { state = l.end; synced = Some (stamp_text l.end.clock) }) (Some (stamp_text l.end.clock)) rs held l.kept (text_put name (stamp_text l.end.clock) before c put_so.1) refl refl;
        which = record { found = λ w. found; turns = l.turns; later = l.later; are_first = l.are_first; outcome = l.outcome; talk = subst P (sym rs) l.talk; texts = inr (put_so.0, refl) };
      }

  left_so : IsAlone told_by before left_by → (c : Contents) → left c → (entry : Contents) (r : Running) → r.state ≡ s → Holds target entry before r → HoldsSome target entry c (MayLeave target r given (Ok Sync))
  left_so alone c lies entry r rs held = let l = h.conversed.stops alone c lies in left_turns c l l.texts entry r rs (h.sought alone c lies ∙ held.synced) held

  synced_unanswered : (fault : PortFault) → IsUnanswered target fault reading (Ok Sync) s xs ys n m (IsAlone told_by before left_by) told_by tells before after left
  synced_unanswered fault = record {
    given = given;
    took = refl;
    talked = h.conversed.adds;
    stayed = λ r rs. elim (either target s end h.conversed.turns h.conversed.late now outcome ended tells (after.texts ≡ before.texts) h.conversed.answered same) [
      | inl has ↦ stayed_untold r rs has
      | inr cut ↦ stayed_cut r rs cut
    ];
    stops = λ alone c lies. (elim (may c lies) [ inl there ↦ (alone c there).0 | inr t ↦ t ], left_so alone c lies);
    new = λ failed r rs. tt;
  }

  pub sync_oks : (answer : Result Answer PortFault) → IsTold ended answer → IfOk answer (λ a. IsAnswered target reading (Ok Sync) s now a.text a.refused xs ys n m tells before after)
  sync_oks (Ok a) (has, (text, bad)) = synced_answered a.text a.refused has text bad
  sync_oks (Err fault) told_so = tt

  pub sync_errs : (answer : Result Answer PortFault) → IfErr answer (λ fault. IsUnanswered target fault reading (Ok Sync) s xs ys n m (IsAlone told_by before left_by) told_by tells before after left)
  sync_errs (Ok a) = tt
  sync_errs (Err fault) = synced_unanswered fault

-- ---- a line of which nothing was done

-- nothing was said
abbrev none_said : ℕ → Option Text → Given
none_said reading since = record { reading = reading; since = since; turns = []; late = [] }

module _ (target : Target) (reading : ℕ) (s : State) (xs : Option (List Exchange)) (n : ℕ) (told_by tells : Type 0) (before : Contents) (left : Contents → Type 0) where
  nothing_said : (fault : PortFault) (command : Result Command ℕ) → syncs command ≡ true → (since : Option Text) → (reading / 60_000 < window → since ≡ get before.texts (synced_name target))
      → IsUnanswered target fault reading command s xs xs n n (IsAlone told_by before left) told_by tells before before left
  nothing_said fault command talks since found = record {
    given = none_said reading since;
    took = refl;
    talked = adds_none xs;
    stayed = λ r rs.
        let P : Bool → Type 0 = λ b. HasStayedIf b target r (none_said reading since) r n n in
        let Q : Bool → Type 0 = λ b. FindsIf b (none_said reading since) r.synced in (
          r,
          subst P (sym talks) (inl (record {
            outcome = going_on (first_since since reading);
            talk = record { last = refl; stays = refl; outcome = refl };
            cut = inl (first_since since reading, (refl, inl (inl refl)));
            same = refl;
            unfailed = refl;
          })),
          λ t entry held. (held, subst Q (sym talks) (λ w. found w ∙ held.synced)),
        );
    stops = λ alone c lies. (
      (alone c lies).0,
      λ entry r rs held.
          let P : Bool → Type 0 = λ b. MayLeaveIf b target r (none_said reading since) command r in
          let Q : Contents → Type 0 = λ k. Holds target entry k r in record {
            left = r;
            holds = subst Q (sym (alone c lies).1) held;
            which = subst P (sym talks) (record {
              found = λ w. found w ∙ held.synced;
              turns = [];
              later = [];
              are_first = refl;
              outcome = going_on (first_since since reading);
              talk = record { last = refl; stays = refl; outcome = refl };
              texts = inl refl;
            });
          },
    );
    new = λ failed r rs. let P : Bool → Type 0 = λ b. HasMadeNewIf b target r (none_said reading since) command in subst P (sym talks) tt;
  }

  -- memory ran out before it was known what the line asks
  pub unasked : (command : Result Command ℕ) → IsUnanswered target NoRoom reading command s xs xs n n (IsAlone told_by before left) told_by tells before before left
  unasked command = by (syncs command) refl
    where
      by : (b : Bool) → syncs command ≡ b → IsUnanswered target NoRoom reading command s xs xs n n (IsAlone told_by before left) told_by tells before before left
      by true talks = nothing_said NoRoom command talks (get before.texts (synced_name target)) (λ w. refl)
      by false plain =
          plain_unanswered target reading command plain s before NoRoom xs n (IsAlone told_by before left) told_by tells before left (λ t. refl)
          (λ alone c lies. ((alone c lies).0, λ entry held. let Q : Contents → Type 0 = λ k. HoldsSet entry k s.messages in record { messages = s.messages; holds = subst Q (sym (alone c lies).1) held; which = inl refl }))
          (λ failed. absurd (cc))

  -- a sync at a reading past the window

  module _ (over : window ≤ reading / 60_000) where
    late_is : (x : State) → conversed x (alone_at reading) ≡ (x, not_taken (OfClock (Beyond reading)))
    late_is x = late_so x (alone_at reading) over

    beyond_answered : (text : List ℕ) (is_bad : Bool) → text ≡ reply_text_of (reply_of (Err (Clock (Beyond reading)))) → is_bad ≡ is_refused (reply_of (Err (Clock (Beyond reading))))
        → IsAnswered target reading (Ok Sync) s s text is_bad xs xs n n tells before before
    beyond_answered text is_bad texts bad =
        let replies : reply_of (Err (Clock (Beyond reading))) ≡ (made target s (alone_at reading) (Ok Sync)).1 =
        ap (λ (d : State × Outcome). sync_reply 0 (length d.0.messages - length s.messages) d.1) (sym (late_is s)) in
        record {
          given = alone_at reading;
          took = refl;
          handled = record {
            state = ap (λ (d : State × Outcome). d.0) (sym (late_is s));
            is_text = texts ∙ ap reply_text_of replies;
            is_bad = bad ∙ ap is_refused replies;
          };
          talked = adds_none xs;
          whole = record { beyond = λ o. silent reading; talk = λ w. apart reading over w; rest = λ w. apart reading over w };
          failed = ap (λ (d : State × Outcome). count_after (goes_on d.1) n) (sym (late_is s));
          keeper = λ t entry r rs held. (
            moved target entry before before r (done target r (alone_at reading) (Ok Sync)).0 held
                (set_as (record entry { texts = before.texts }) before r.state.messages _ (ap (λ (d : State × Outcome). d.0.messages) (sym (late_is r.state))) held.set)
                (ap (λ (d : State × Outcome). last_synced d.0 d.1 r.synced) (late_is r.state)),
            λ w. apart reading over w,
          );
        }

    pub beyond_oks : (ended : Result Synced SyncFault) (answer : Result Answer PortFault) → ended ≡ Err (Clock (Beyond reading)) → IsTold ended answer → IfOk answer (λ a. IsAnswered target reading (Ok Sync) s s a.text a.refused xs xs n n tells before before)
    beyond_oks ended (Ok a) same (has, (text, bad)) = beyond_answered a.text a.refused (text ∙ ap (λ (e : Result Synced SyncFault). reply_text_of (reply_of e)) same) (bad ∙ ap (λ (e : Result Synced SyncFault). is_refused (reply_of e)) same)
    beyond_oks ended (Err fault) same told_so = tt

    pub beyond_errs : (answer : Result Answer PortFault) → IfErr answer (λ fault. IsUnanswered target fault reading (Ok Sync) s xs xs n n (IsAlone told_by before left) told_by tells before before left)
    beyond_errs (Ok a) = tt
    beyond_errs (Err fault) = nothing_said fault (Ok Sync) refl None (λ w. apart reading over w)

-- ---- of any outcome

usable_of : (P : Type 0) (ended : Result Synced SyncFault) → HasReply ended → IfUsable ended P → P
usable_of P (Ok done) has p = p
usable_of P (Err Link) has p = p
usable_of P (Err (BadReply at)) has p = p
usable_of P (Err (Refused status)) has p = p
usable_of P (Err (OutOfSync mine theirs)) has p = p
usable_of P (Err (Clock fault)) has p = p
usable_of P (Err Keeper) has p = absurd has
usable_of P (Err NoMemory) has p = absurd has

pub when_told : (P : Type 0) (ended : Result Synced SyncFault) (answer : Result Answer PortFault) → IsTold ended answer → IfUsable ended P → OnOk answer P
when_told P ended (Ok a) (has, told_so) p = usable_of P ended has p
when_told P ended (Err fault) told_so p = tt

kept_of : (ended : Result Synced SyncFault) → HasReply ended → fails_keeper ended ≡ false
kept_of (Ok done) has = refl
kept_of (Err Link) has = refl
kept_of (Err (BadReply at)) has = refl
kept_of (Err (Refused status)) has = refl
kept_of (Err (OutOfSync mine theirs)) has = refl
kept_of (Err (Clock fault)) has = refl
kept_of (Err Keeper) has = absurd has
kept_of (Err NoMemory) has = absurd has

pub told_count : (ended : Result Synced SyncFault) (answer : Result Answer PortFault) → IsTold ended answer → fails_keeper ended ≡ has_failed answer
told_count ended (Ok a) (has, told_so) = kept_of ended has
told_count ended (Err fault) told_so = sym told_so

both_of : (P Q : Type 0) → (P → Q) → (ended : Result Synced SyncFault) → IfUsable ended P → IfUsable ended Q
both_of P Q f (Ok done) p = f p
both_of P Q f (Err Link) p = f p
both_of P Q f (Err (BadReply at)) p = f p
both_of P Q f (Err (Refused status)) p = f p
both_of P Q f (Err (OutOfSync mine theirs)) p = f p
both_of P Q f (Err (Clock fault)) p = f p
both_of P Q f (Err Keeper) p = tt
both_of P Q f (Err NoMemory) p = tt

pub live_of : (P Q : Type 0) (ended : Result Synced SyncFault) → IfUsable ended (P × Q) → IfUsable ended P
live_of P Q ended p = both_of (P × Q) P (λ both. both.0) ended p

pub idle_of : (P Q : Type 0) (ended : Result Synced SyncFault) → IfUsable ended (P × Q) → IfUsable ended Q
idle_of P Q ended p = both_of (P × Q) Q (λ both. both.1) ended p

-- a reading is within the window of timestamps or past it
pub within_or : (reading : ℕ) → (reading / 60_000 < window) ⊎ (window ≤ reading / 60_000)
within_or reading = elim (cases_Bool (nat_lt (reading / 60_000) window)) [ inl below ↦ inl (ltb-true (reading / 60_000) window below) | inr above ↦ inr (ltb-false (reading / 60_000) window above) ]
