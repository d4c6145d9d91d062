-- The conversation goes on by one turn.
use Rattle.std.proofs.Common.{◌≡◌, ◌⊎◌, inl, inr, ℕ, suc, ◌+◌, ◌-◌, List, [], ◌∷◌, ◌++◌, Option, None, Some, Result, Ok, Err, ℤ, length, map, refl, sym, ap, ap₂, ◌∙◌, subst, append-nil, append_assoc, length-append, arith}
use Rattle.std.proofs.lemmas.List.{map-append}
use Rattle.std.specs.FinMap.{get, insert}
use Rattle.budget_ports.specs.Contents.{Contents, with_text}
use Rattle.budget_ports.specs.Exchanges.{Exchange, Adds}
use Rattle.budget_ports.specs.Keeper.{Commits, IsAlone, LeavesNoMore}
use Rattle.field_merge.specs.declared.message.Message.{Message}
use Rattle.kept_messages.specs.Holding.{Holds}
use Rattle.hybrid_clock.specs.Moments.{moment_text}
use Rattle.hybrid_clock.specs.Stamp.{stamp_text}
use Rattle.device_core.specs.declared.edit.LineRefusal.TheVariants.{Clock as OfClock}
use Rattle.device_core.specs.Device.{State}
use Rattle.device_sync.specs.declared.fault.SyncFault.{SyncFault}
use Rattle.device_sync.specs.declared.fault.SyncFault.TheVariants.{Link, BadReply, Refused, OutOfSync, Clock, Keeper, NoMemory}
use Rattle.device_sync.specs.declared.fault.Synced.{Synced}
use Rattle.device_sync.specs.declared.round.Compared.TheVariants.{Agreed, Differ}
use Rattle.device_sync.specs.declared.target.Target.{Target}
use Rattle.device_sync.specs.Requests.{first_since}
use Rattle.device_sync.specs.Talk.{Outcome, going_on, agreed, out_of_sync, not_taken, refused, bad_reply, Next, ends, asks, next, Turn, exchange_of, Follows, Talk}
use Rattle.device_sync.specs.Sync.{Told, Carries, text_of, IsUnanswered, TakesTurn, further, IsLeft, reached, IsLateTurn, IsCut, IsRound, IsCutOff, IsAnswered, MayBeLeft, IsNumber, IsCounted, HasConversed, HasTalked, synced_name, UnlessSpoilt, IfUsable}
use Rattle.device_sync.proofs.Turns.{carries_same, carries_both}

-- The turns so far, after which the conversation goes on from a text, and may have one request and so many more
pub record Goes (target : Target) (group : List ℕ) (reading : ℕ) (first : List ℕ) (s : State) (old now : Told) (since : List ℕ) (left : ℕ) (here : State) : Type 0 where
  pub done : List Turn
  pub adds : Adds old.exchanges now.exchanges (map exchange_of done)
  pub goes : (ys : List Turn) (end : State) (o : Outcome) → Talk target reading (suc left) since here ys end o → Talk target reading 100 first s (done ++ ys) end o
  pub number : length done + suc left ≡ 100
  pub kept : now.tells → Carries group s.messages here.messages old.contents now.contents
  pub texts : now.tells → now.contents.texts ≡ old.contents.texts
  pub alone : IsAlone old.tells old.contents old.left → IsAlone now.tells now.contents now.left

adds_none : (old : Option (List Exchange)) → Adds old old []
adds_none None = tt
adds_none (Some all) = sym (append-nil all)

adds_both : (old mid new : Option (List Exchange)) (one other : List Exchange) → Adds old mid one → Adds mid new other → Adds old new (one ++ other)
adds_both None mid new one other h k = tt
adds_both (Some a) None new one other h k = absurd h
adds_both (Some a) (Some b) None one other h k = absurd k
adds_both (Some a) (Some b) (Some c) one other h k = k ∙ ap (λ (l : List Exchange). l ++ other) h ∙ append_assoc a one other

pub goes_none : (target : Target) (group : List ℕ) (reading : ℕ) (first : List ℕ) (s : State) (old : Told) → Goes target group reading first s old old first 99 s
goes_none target group reading first s old = record {
  done = [];
  adds = adds_none old.exchanges;
  goes = λ ys end o h. h;
  number = omega arith;
  kept = λ _. carries_same group s.messages old.contents old.contents refl;
  texts = λ _. refl;
  alone = λ a. a;
}

-- one turn more
done_more : (done : List Turn) (x : Turn) → map exchange_of (done ++ x ∷ []) ≡ map exchange_of done ++ exchange_of x ∷ []
done_more done x = map-append exchange_of done (x ∷ [])

-- where a reply leads
abbrev how_reached : Next → Outcome
how_reached (ends p how) = how
how_reached (asks p moment) = going_on (moment_text moment)

follows_alone : (target : Target) (reading left : ℕ) (n : Next) → Follows n [] (reached n) (how_reached n) (λ q moment. Talk target reading left (moment_text moment) q [] (reached n) (how_reached n))
follows_alone target reading left (ends p how) = record { last = refl; stays = refl; outcome = refl }
follows_alone target reading left (asks p moment) = record { last = refl; stays = refl; outcome = refl }

module _ (target : Target) (group : List ℕ) (reading : ℕ) (first : List ℕ) (s : State) (old mid new : Told) (since : List ℕ) (here now : State) where
  adds_turn : (left : ℕ) (g : Goes target group reading first s old mid since left here) (after : ℕ → Next) (t : TakesTurn target reading since here mid.exchanges new.exchanges after)
      → Adds old.exchanges new.exchanges (map exchange_of (g.done ++ t.turn ∷ []))
  adds_turn left g after t =
      subst (λ (l : List Exchange). Adds old.exchanges new.exchanges l) (sym (done_more g.done t.turn)) (adds_both old.exchanges mid.exchanges new.exchanges (map exchange_of g.done) (exchange_of t.turn ∷ []) g.adds t.adds)

  -- what follows a turn
  with_turn : (left : ℕ) (after : ℕ → Next) (t : TakesTurn target reading since here mid.exchanges new.exchanges after) (ys : List Turn) (end : State) (o : Outcome)
      → Follows (after left) ys end o (λ q moment. Talk target reading left (moment_text moment) q ys end o) → Talk target reading (suc left) since here (t.turn ∷ ys) end o
  with_turn left after t ys end o h =
      (t.sent, t.judged, subst (λ (n : Next). Follows n ys end o (λ q moment. Talk target reading left (moment_text moment) q ys end o)) (sym (t.follows left)) h)

  -- what is known of the keeper after a turn
  pub record Keeps (end : State) (AloneThen : Type 0) : Type 0 where
    pub back : new.tells → mid.tells
    pub carries : new.tells → Carries group here.messages end.messages mid.contents new.contents
    pub texts : new.tells → new.contents.texts ≡ mid.contents.texts
    pub alone : AloneThen

  abbrev IsAloneThen : Type 0
  IsAloneThen = IsAlone mid.tells mid.contents mid.left → IsAlone new.tells new.contents new.left

  pub goes_on : (left l moment : ℕ) (mine theirs : ℤ) (text : List ℕ) → Goes target group reading first s old mid since left here → IsRound target group reading since here mid new now (Ok (Differ moment mine theirs))
      → left ≡ suc l → text ≡ moment_text moment → Keeps now IsAloneThen
      → Goes target group reading first s old new text l now
  goes_on left l moment mine theirs text g t is asked k = record {
    done = g.done ++ t.turn ∷ [];
    adds = adds_turn left g (further now moment mine theirs) t;
    goes = λ ys end o talk.
        subst (λ (xs : List Turn). Talk target reading 100 first s xs end o) (sym (append_assoc g.done (t.turn ∷ []) ys))
        (g.goes (t.turn ∷ ys) end o (with_turn left (further now moment mine theirs) t ys end o
        (subst (λ (i : ℕ). Follows (further now moment mine theirs i) ys end o (λ q m. Talk target reading i (moment_text m) q ys end o)) (sym is)
        (subst (λ (z : List ℕ). Talk target reading (suc l) z now ys end o) asked talk))));
    number = (let n = g.number in let more = length-append g.done (t.turn ∷ []) in omega arith);
    kept = λ told. carries_both group s.messages here.messages now.messages old.contents mid.contents new.contents (g.kept (k.back told)) (k.carries told);
    texts = λ told. k.texts told ∙ g.texts (k.back told);
    alone = λ a. k.alone (g.alone a);
  }

  -- what a stop may leave where it leaves the contents alone
  stops_alone : (turns : List Turn) (late : List Exchange) (end : State) (o : Outcome) → Talk target reading 100 first s turns end o → (new.tells → Carries group s.messages end.messages old.contents new.contents)
      → (new.tells → new.contents.texts ≡ old.contents.texts) → (c : Contents) → new.tells × (c ≡ new.contents) → MayBeLeft target group reading first s (map exchange_of turns ++ late) old.contents c
  stops_alone turns late end o talk kept texts c is = record {
    turns = turns;
    later = late;
    are_first = refl;
    end = end;
    outcome = o;
    talk = talk;
    kept = subst (λ (k : Contents). Carries group s.messages end.messages old.contents k) (sym is.1) (kept is.0);
    texts = inl (ap (λ (k : Contents). k.texts) is.1 ∙ texts is.0);
  }

  -- the last turn
  ends_at : (left : ℕ) (how : Outcome) (after : ℕ → Next) (end : State) (r : Result ℕ SyncFault) → Goes target group reading first s old mid since left here
      → (t : TakesTurn target reading since here mid.exchanges new.exchanges after) → after left ≡ ends end how
      → ((g : ℕ) → g + suc left ≡ 100 → IsAnswered target end how [] now (λ number. number ≡ g + 1) r)
      → Keeps end IsAloneThen
      → HasConversed target group reading first s old new now IsNumber r
  ends_at left how after end r g t is answered k =
      let talk : Talk target reading 100 first s (g.done ++ t.turn ∷ []) end how = g.goes (t.turn ∷ []) end how (with_turn left after t [] end how
      (subst (λ (n : Next). Follows n [] end how (λ q moment. Talk target reading left (moment_text moment) q [] end how)) (sym is) (record { last = refl; stays = refl; outcome = refl }))) in
      let kept : new.tells → Carries group s.messages end.messages old.contents new.contents =
      λ told. carries_both group s.messages here.messages end.messages old.contents mid.contents new.contents (g.kept (k.back told)) (k.carries told) in record {
        turns = g.done ++ t.turn ∷ [];
        late = [];
        end = end;
        outcome = how;
        adds = subst (λ (l : List Exchange). Adds old.exchanges new.exchanges l) (sym (append-nil (map exchange_of (g.done ++ t.turn ∷ [])))) (adds_turn left g after t);
        talk = talk;
        answered = subst (λ (n : ℕ). IsAnswered target end how [] now (λ number. number ≡ n) r) (sym (length-append g.done (t.turn ∷ []))) (answered (length g.done) g.number);
        kept = kept;
        stops = λ a c may. stops_alone (g.done ++ t.turn ∷ []) [] end how talk kept (λ told. k.texts told ∙ g.texts (k.back told)) c (k.alone (g.alone a) c may);
      }

  -- the conversation so far
  talk_so_far : (left : ℕ) (g : Goes target group reading first s old mid since left here) → Talk target reading 100 first s g.done here (going_on since)
  talk_so_far left g = subst (λ (xs : List Turn). Talk target reading 100 first s xs here (going_on since)) (append-nil g.done)
      (g.goes [] here (going_on since) (record { last = refl; stays = refl; outcome = refl }))

  -- the conversation is left as it goes on
  left_open : (left : ℕ) (r : Result ℕ SyncFault) (IsLate : List ℕ → List Exchange → Type 0) → (g : Goes target group reading first s old mid since left here)
      → (h : IsLeft (text_of target since here) mid.exchanges new.exchanges IsLate)
      → ((late : List Exchange) (number : ℕ) → IsLate (text_of target since here) late → IsAnswered target here (going_on since) late now (λ n. n ≡ number) r)
      → (new.tells → mid.tells) → (new.tells → Carries group here.messages here.messages mid.contents new.contents)
      → (IsAlone old.tells old.contents old.left → (c : Contents) → new.left c → MayBeLeft target group reading first s (map exchange_of g.done ++ h.late) old.contents c)
      → HasConversed target group reading first s old new now IsNumber r
  left_open left r IsLate g h answered back kept stops = record {
    turns = g.done;
    late = h.late;
    end = here;
    outcome = going_on since;
    adds = adds_both old.exchanges mid.exchanges new.exchanges (map exchange_of g.done) h.late g.adds h.adds;
    talk = talk_so_far left g;
    answered = answered h.late (length g.done) h.is_late;
    kept = λ told. carries_both group s.messages here.messages here.messages old.contents mid.contents new.contents (g.kept (back told)) (kept told);
    stops = stops;
  }

  -- what a stop may leave of a round that was cut off
  stops_cut : (left : ℕ) (g : Goes target group reading first s old mid since left here) (late : List Exchange) → IsCut target group reading since here mid new (text_of target since here) late
      → IsAlone old.tells old.contents old.left → (c : Contents) → new.left c → MayBeLeft target group reading first s (map exchange_of g.done ++ late) old.contents c
  stops_cut left g late cut a c may = by (cut.stops (g.alone a) c may)
    where
      by : mid.tells × ((c ≡ mid.contents) ⊎ IsLateTurn target group reading since here late mid.contents c) → MayBeLeft target group reading first s (map exchange_of g.done ++ late) old.contents c
      by (told, inl same) = record {
        turns = g.done;
        later = late;
        are_first = refl;
        end = here;
        outcome = going_on since;
        talk = talk_so_far left g;
        kept = subst (λ (k : Contents). Carries group s.messages here.messages old.contents k) (sym same) (g.kept told);
        texts = inl (ap (λ (k : Contents). k.texts) same ∙ g.texts told);
      }
      by (told, inr x) = let n = next reading left here x.turn.got in record {
        turns = g.done ++ x.turn ∷ [];
        later = [];
        are_first = append-nil (map exchange_of (g.done ++ x.turn ∷ [])) ∙ done_more g.done x.turn ∙ ap (λ (l : List Exchange). map exchange_of g.done ++ l) (sym x.is_late);
        end = reached n;
        outcome = how_reached n;
        talk = g.goes (x.turn ∷ []) (reached n) (how_reached n) (x.sent, x.judged, follows_alone target reading left n);
        kept = carries_both group s.messages here.messages (reached n).messages old.contents mid.contents c (g.kept told) (x.kept.messages left);
        texts = inl (x.kept.texts ∙ g.texts told);
      }

  pub ends_agreed : (left : ℕ) → Goes target group reading first s old mid since left here → IsRound target group reading since here mid new now (Ok Agreed)
      → Keeps now IsAloneThen → HasConversed target group reading first s old new now IsNumber (Ok (100 - left))
  ends_agreed left g t k = ends_at left agreed (λ left. ends now agreed) now (Ok (100 - left)) g t refl (λ n is. (refl, (refl, (refl, omega arith)))) k

  pub ends_out : (left moment : ℕ) (mine theirs my_root their_root : ℤ) → Goes target group reading first s old mid since left here → IsRound target group reading since here mid new now (Ok (Differ moment mine theirs)) → left ≡ 0
      → my_root ≡ mine → their_root ≡ theirs
      → Keeps now IsAloneThen → HasConversed target group reading first s old new now IsNumber (Err (OutOfSync my_root their_root))
  ends_out left moment mine theirs my_root their_root g t none one other k =
      subst (λ (z : ℤ). HasConversed target group reading first s old new now IsNumber (Err (OutOfSync my_root z))) (sym other)
      (subst (λ (z : ℤ). HasConversed target group reading first s old new now IsNumber (Err (OutOfSync z theirs))) (sym one)
      (ends_at left (out_of_sync mine theirs) (further now moment mine theirs) now (Err (OutOfSync mine theirs)) g t (ap (further now moment mine theirs) none) (λ n is. (refl, (refl, refl))) k))

  by_link : (left : ℕ) → Goes target group reading first s old mid since left here → IsLeft (text_of target since here) mid.exchanges new.exchanges IsUnanswered × (now ≡ here)
      → Keeps here IsAloneThen → HasConversed target group reading first s old new now IsNumber (Err Link)
  by_link left g h k = left_open left (Err Link) IsUnanswered g h.0 (λ late n is. (since, (refl, (is, h.1)))) k.back k.carries
      (λ a c may. stops_alone g.done h.0.late here (going_on since) (talk_so_far left g)
      (λ told. carries_both group s.messages here.messages here.messages old.contents mid.contents new.contents (g.kept (k.back told)) (k.carries told))
      (λ told. k.texts told ∙ g.texts (k.back told)) c (k.alone (g.alone a) c may))

  pub ends_fault : (left : ℕ) (fault : SyncFault) → Goes target group reading first s old mid since left here → IsRound target group reading since here mid new now (Err fault)
      → Keeps here (UnlessSpoilt fault IsAloneThen) → HasConversed target group reading first s old new now IsNumber (Err fault)
  ends_fault left Link g h k = by_link left g h k
  ends_fault left (BadReply at) g h k = ends_at left (bad_reply at) (λ left. ends here (bad_reply at)) here (Err (BadReply at)) g h.0 refl (λ n is. (refl, (refl, h.1))) k
  ends_fault left (Refused status) g h k = ends_at left (refused status) (λ left. ends here (refused status)) here (Err (Refused status)) g h.0 refl (λ n is. (refl, (refl, h.1))) k
  ends_fault left (OutOfSync mine theirs) g h k = absurd h
  ends_fault left (Clock fault) g h k = ends_at left (not_taken (OfClock fault)) (λ left. ends here (not_taken (OfClock fault))) here (Err (Clock fault)) g h.0 refl (λ n is. (refl, (refl, h.1))) k
  ends_fault left Keeper g h k = left_open left (Err Keeper) (IsCut target group reading since here mid new) g h (λ late n is. inl (since, (refl, is.unjudged))) k.back k.carries (stops_cut left g h.late h.is_late)
  ends_fault left NoMemory g h k = left_open left (Err NoMemory) (IsCut target group reading since here mid new) g h (λ late n is. inl (since, (refl, is.unjudged))) k.back k.carries (stops_cut left g h.late h.is_late)

-- memory ran out between two rounds
pub ends_between : (target : Target) (group : List ℕ) (reading : ℕ) (first : List ℕ) (s : State) (old new : Told) (since : List ℕ) (left : ℕ) (here : State) → Goes target group reading first s old new since left here
    → HasConversed target group reading first s old new here IsNumber (Err NoMemory)
ends_between target group reading first s old new since left here g = record {
  turns = g.done;
  late = [];
  end = here;
  outcome = going_on since;
  adds = subst (λ (l : List Exchange). Adds old.exchanges new.exchanges l) (sym (append-nil (map exchange_of g.done))) g.adds;
  talk = talk_so_far target group reading first s old new new since here here left g;
  answered = inl (since, (refl, inl (inl refl)));
  kept = g.kept;
  stops = λ a c may. stops_alone target group reading first s old new new since here here g.done [] here (going_on since) (talk_so_far target group reading first s old new new since here here left g) g.kept g.texts c (g.alone a c may);
}

-- ---- the end of a sync

carries_text : (group : List ℕ) (ms : List Message) (before now : Contents) (name text : List ℕ) → now ≡ with_text before name text → Carries group ms ms before now
carries_text group ms before now name text is = λ entry h.
    subst (λ (k : Contents). Holds group (record entry { texts = k.texts }) k ms) (sym is) (record {
      messages = h.messages;
      kept = h.kept;
      written = h.written;
      others = record { records = h.others.records; texts = refl };
    })

module _ (target : Target) (group : List ℕ) (reading : ℕ) (first : List ℕ) (s : State) (old mid new : Told) (now : State) where
  -- after the conversation the keeper alone was called
  more_kept : {T U : Type 0} (P : List Turn → State → T → Type 0) (Q : List Turn → State → U → Type 0) (r : Result T SyncFault) (q : Result U SyncFault)
      → (h : HasConversed target group reading first s old mid now P r) → new.exchanges ≡ mid.exchanges
      → IsAnswered target h.end h.outcome h.late now (Q h.turns h.end) q
      → (new.tells → mid.tells) → (new.tells → Carries group h.end.messages h.end.messages mid.contents new.contents)
      → (IsAlone old.tells old.contents old.left → (c : Contents) → new.left c → MayBeLeft target group reading first s (map exchange_of h.turns ++ h.late) old.contents c)
      → HasConversed target group reading first s old new now Q q
  more_kept P Q r q h links answered back kept stops = record {
    turns = h.turns;
    late = h.late;
    end = h.end;
    outcome = h.outcome;
    adds = subst (λ (x : Option (List Exchange)). Adds old.exchanges x (map exchange_of h.turns ++ h.late)) (sym links) h.adds;
    talk = h.talk;
    answered = answered;
    kept = λ t. carries_both group s.messages h.end.messages h.end.messages old.contents mid.contents new.contents (h.kept (back t)) (kept t);
    stops = stops;
  }

  module _ (number : ℕ) (h : HasConversed target group reading first s old mid now IsNumber (Ok number)) (links : new.exchanges ≡ mid.exchanges) (back : new.tells → mid.tells) (texts : mid.tells → mid.contents.texts ≡ old.contents.texts) where
    -- the text of the last sync was put
    left_with_text : mid.tells → (c : Contents) → c ≡ with_text mid.contents (synced_name target) (stamp_text now.clock) → MayBeLeft target group reading first s (map exchange_of h.turns ++ h.late) old.contents c
    left_with_text told c is = let a = h.answered in record {
      turns = h.turns;
      later = h.late;
      are_first = refl;
      end = h.end;
      outcome = h.outcome;
      talk = h.talk;
      kept = carries_both group s.messages h.end.messages h.end.messages old.contents mid.contents c (h.kept told)
          (carries_text group h.end.messages mid.contents c (synced_name target) (stamp_text now.clock) is);
      texts = inr (a.0, ap (λ (k : Contents). k.texts) is ∙ ap₂ (λ ts (z : State). insert ts (synced_name target) (stamp_text z.clock)) (texts told) a.1.1.0);
    }

    pub synced_ends : (synced : Synced) → synced.requests ≡ number → synced.received ≡ length now.messages - length s.messages
        → (new.tells → new.contents ≡ with_text mid.contents (synced_name target) (stamp_text now.clock))
        → (IsAlone old.tells old.contents old.left → IsAlone new.tells new.contents new.left)
        → HasConversed target group reading first s old new now (IsCounted s) (Ok synced)
    synced_ends synced one other put alone =
        let a = h.answered in
        more_kept IsNumber (IsCounted s) (Ok number) (Ok synced) h links
        (a.0, (a.1.0, (a.1.1.0, (one ∙ a.1.1.1, other ∙ ap (λ (z : State). length z.messages - length s.messages) a.1.1.0))))
        back (λ t. carries_text group h.end.messages mid.contents new.contents (synced_name target) (stamp_text now.clock) (put t))
        (λ alone_first c may. let is = alone alone_first c may in left_with_text (back is.0) c (is.1 ∙ put is.0))

    stops_unput : Commits mid.tells mid.left new.left (with_text mid.contents (synced_name target) (stamp_text now.clock)) → IsAlone old.tells old.contents old.left → (c : Contents) → new.left c
        → MayBeLeft target group reading first s (map exchange_of h.turns ++ h.late) old.contents c
    stops_unput commits alone c may = elim (commits c may) [ inl there ↦ h.stops alone c there | inr put ↦ left_with_text put.0 c put.1 ]

    pub unput_keeper : (new.tells → new.contents ≡ mid.contents) → Commits mid.tells mid.left new.left (with_text mid.contents (synced_name target) (stamp_text now.clock))
        → HasConversed target group reading first s old new now (IsCounted s) (Err Keeper)
    unput_keeper same commits = let a = h.answered in
        more_kept IsNumber (IsCounted s) (Ok number) (Err Keeper) h links (inr (a.0, a.1.0)) back (λ t. carries_same group h.end.messages mid.contents new.contents (same t)) (stops_unput commits)

    pub unput_memory : (new.tells → new.contents ≡ mid.contents) → Commits mid.tells mid.left new.left (with_text mid.contents (synced_name target) (stamp_text now.clock))
        → HasConversed target group reading first s old new now (IsCounted s) (Err NoMemory)
    unput_memory same commits = let a = h.answered in
        more_kept IsNumber (IsCounted s) (Ok number) (Err NoMemory) h links (inr (a.0, a.1.0)) back (λ t. carries_same group h.end.messages mid.contents new.contents (same t)) (stops_unput commits)

-- the conversation ended with a fault
pub same_fault : (target : Target) (group : List ℕ) (reading : ℕ) (first : List ℕ) (s : State) (old new : Told) (now : State) (fault : SyncFault)
    → HasConversed target group reading first s old new now IsNumber (Err fault) → HasConversed target group reading first s old new now (IsCounted s) (Err fault)
same_fault target group reading first s old new now fault h = record {
  turns = h.turns;
  late = h.late;
  end = h.end;
  outcome = h.outcome;
  adds = h.adds;
  talk = h.talk;
  answered = by fault h.answered;
  kept = h.kept;
  stops = h.stops;
}
  where
    by : (fault : SyncFault) → IsAnswered target h.end h.outcome h.late now (IsNumber h.turns h.end) (Err fault) → IsAnswered target h.end h.outcome h.late now (IsCounted s h.turns h.end) (Err fault)
    by Link a = a
    by (BadReply at) a = a
    by (Refused status) a = a
    by (OutOfSync mine theirs) a = a
    by (Clock fault) a = a
    by Keeper a = a
    by NoMemory a = a

-- before the first request
pub nothing_said : (target : Target) (group : List ℕ) (reading : ℕ) (first : List ℕ) (s now : State) (old new : Told) (fault : SyncFault) → new.exchanges ≡ old.exchanges
    → IsCutOff target s (going_on first) [] → (IsCutOff target s (going_on first) [] → IsAnswered target s (going_on first) [] now (IsCounted s [] s) (Err fault)) → (new.tells → new.contents ≡ old.contents)
    → LeavesNoMore old.left new.left
    → HasConversed target group reading first s old new now (IsCounted s) (Err fault)
nothing_said target group reading first s now old new fault links cut answered same no_more = record {
  turns = [];
  late = [];
  end = s;
  outcome = going_on first;
  adds = subst (λ (x : Option (List Exchange)). Adds old.exchanges x []) (sym links) (adds_none old.exchanges);
  talk = record { last = refl; stays = refl; outcome = refl };
  answered = answered cut;
  kept = λ t. carries_same group s.messages old.contents new.contents (same t);
  stops = λ a c may. let is = a c (no_more c may) in record {
    turns = [];
    later = [];
    are_first = refl;
    end = s;
    outcome = going_on first;
    talk = record { last = refl; stays = refl; outcome = refl };
    kept = carries_same group s.messages old.contents c is.1;
    texts = inl (ap (λ (k : Contents). k.texts) is.1);
  };
}

-- nothing was asked
pub cut_first : (target : Target) (s : State) (first : List ℕ) → IsCutOff target s (going_on first) []
cut_first target s first = inl (first, (refl, inl (inl refl)))

-- a sync that ended before its first request, since the keeper failed or memory ran out
pub none_by_keeper : (target : Target) (group : List ℕ) (reading : ℕ) (s now : State) (old new : Told) → new.exchanges ≡ old.exchanges → (new.tells → new.contents ≡ old.contents) → LeavesNoMore old.left new.left
    → HasTalked target group reading s old new now (Err Keeper)
none_by_keeper target group reading s now old new links same no_more = record {
  since = get old.contents.texts (synced_name target);
  found = λ t. refl;
  sought = λ a c may. refl;
  conversed = nothing_said target group reading _ s now old new Keeper links (cut_first target s _) (λ h. h) same no_more;
}

pub none_by_memory : (target : Target) (group : List ℕ) (reading : ℕ) (s now : State) (old new : Told) → new.exchanges ≡ old.exchanges → (new.tells → new.contents ≡ old.contents) → LeavesNoMore old.left new.left
    → HasTalked target group reading s old new now (Err NoMemory)
none_by_memory target group reading s now old new links same no_more = record {
  since = get old.contents.texts (synced_name target);
  found = λ t. refl;
  sought = λ a c may. refl;
  conversed = nothing_said target group reading _ s now old new NoMemory links (cut_first target s _) (λ h. h) same no_more;
}

-- a keeper that was asked told, where a stop may leave anything after what came later
told_then : {A B C : Type 0} → A ⊎ B → (A → B × C) → B
told_then (inl a) f = (f a).0
told_then (inr b) f = b

-- a sync that talked: before it the keeper was asked for the text of the last one
pub talked_from : (target : Target) (group : List ℕ) (reading : ℕ) (s now : State) (old mid new : Told) (since : Option (List ℕ)) (first : List ℕ) (r : Result Synced SyncFault)
    → mid.exchanges ≡ old.exchanges → (mid.tells → mid.contents ≡ old.contents) → (mid.tells → since ≡ get old.contents.texts (synced_name target)) → first ≡ first_since since reading → (new.tells → mid.tells)
    → (IsAlone old.tells old.contents old.left → IsAlone mid.tells mid.contents mid.left) → ((c : Contents) → new.left c → mid.left c ⊎ mid.tells)
    → HasConversed target group reading first s mid new now (IsCounted s) r → HasTalked target group reading s old new now r
talked_from target group reading s now old mid new since first r links same found begins back alone before h = record {
  since = since;
  found = λ t. found (back t);
  sought = λ a c may. found (told_then (before c may) (alone a c));
  conversed = record {
    turns = h.turns;
    late = h.late;
    end = h.end;
    outcome = h.outcome;
    adds = subst (λ (x : Option (List Exchange)). Adds x new.exchanges (map exchange_of h.turns ++ h.late)) links h.adds;
    talk = subst (λ (z : List ℕ). Talk target reading 100 z s h.turns h.end h.outcome) begins h.talk;
    answered = h.answered;
    kept = λ t. subst (λ (k : Contents). Carries group s.messages h.end.messages k new.contents) (same (back t)) (h.kept t);
    stops = λ a c may.
        subst (λ (z : List ℕ). MayBeLeft target group reading z s (map exchange_of h.turns ++ h.late) old.contents c) begins
        (subst (λ (k : Contents). MayBeLeft target group reading first s (map exchange_of h.turns ++ h.late) k c) (same (told_then (before c may) (alone a c)))
        (h.stops (alone a) c may));
  };
}

-- ---- what a stop may leave

pub left_before : {left mid new : Contents → Type 0} {told mid_told : Type 0} → ((k : Contents) → new k → mid k ⊎ mid_told) → ((k : Contents) → mid k → left k ⊎ told) → (mid_told → told) → (k : Contents) → new k → left k ⊎ told
left_before one other back k h = elim (one k h) [ inl there ↦ other k there | inr tells ↦ inr (back tells) ]

pub usable_after : (A B C : Type 0) (fault : SyncFault) → UnlessSpoilt fault (B → C) → (A → B) → UnlessSpoilt fault (A → C)
usable_after A B C Link h f = λ a. h (f a)
usable_after A B C (BadReply at) h f = λ a. h (f a)
usable_after A B C (Refused status) h f = λ a. h (f a)
usable_after A B C (OutOfSync mine theirs) h f = λ a. h (f a)
usable_after A B C (Clock fault) h f = λ a. h (f a)
usable_after A B C Keeper h f = tt
usable_after A B C NoMemory h f = tt

pub usable_result : {T : Type 0} (A B C : Type 0) (r : Result T SyncFault) → IfUsable r (B → C) → (A → B) → IfUsable r (A → C)
usable_result A B C (Ok value) h f = λ a. h (f a)
usable_result A B C (Err fault) h f = usable_after A B C fault h f
