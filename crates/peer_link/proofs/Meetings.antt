-- What two devices have that synced with one server.
use Rattle.std.proofs.Common.{◌≡◌, ◌⊎◌, inl, inr, ◌<◌, ◌≤◌, ◌/◌, ◌-◌, nat_lt, ℕ, zero, suc, List, [], ◌∷◌, ◌++◌, length, map, true, false, Option, None, Some, Result, Ok, Err, refl, sym, ap, ◌∙◌, subst, append-nil}
use Rattle.std.specs.Prelude.{IfOk, IsSome}
use Rattle.std.specs.Option.{option_or}
use Rattle.std.proofs.lemmas.Bool.{cases_Bool, ltb-true, ltb-false}
use Rattle.hybrid_clock.specs.Stamp.{window}
use Rattle.budget_ports.specs.Exchanges.{Exchange, begun, Adds, IsOpen}
use Rattle.hybrid_clock.specs.declared.stamp.Stamp.{Stamp}
use Rattle.hybrid_clock.specs.Order.{stamp_cmp}
use Rattle.field_merge.specs.declared.message.Message.{Message}
use Rattle.field_merge.specs.Log.{IsRising, at_stamp, join}
use Rattle.field_merge.proofs.Joining.{found, rising, stamp_of}
use Rattle.field_merge.proofs.Ordered.{same, in_order_nil}
use Rattle.field_merge.proofs.Orders.{stamps_total}
use Rattle.hybrid_clock.specs.Moments.{moment_text}
use Rattle.minute_trie.specs.Held.{Held}
use Rattle.minute_trie.specs.Diff.{difference}
use Rattle.device_core.specs.declared.edit.LineRefusal.{LineRefusal}
use Rattle.device_core.specs.Device.{State, Accepted, received}
use Rattle.device_core.specs.ReadBack.{ReceivedAreJoined}
use Rattle.device_sync.specs.declared.fault.SyncFault.{SyncFault}
use Rattle.device_sync.specs.declared.fault.SyncFault.TheVariants.{Link, BadReply, Refused, OutOfSync, Clock, Keeper, NoMemory}
use Rattle.device_sync.specs.declared.fault.Synced.{Synced}
use Rattle.device_sync.specs.declared.target.Target.{Target}
use Rattle.device_sync.specs.Honest.{Honest, AreWithin}
use Rattle.device_sync.specs.Laws.{HaveOneEach}
use Rattle.device_sync.specs.Replies.{Got, answer, refusal, bad}
use Rattle.device_sync.specs.Talk.{Outcome, going_on, agreed, trie_in, Next, ends, asks, compared, taken, next, Turn, exchange_of, Follows, Talk, most_requests}
use Rattle.device_sync.specs.Sync.{Told, reached, IsAnswered, HasTalked, IsCounted, MeetsHonest, IfUsable}
use Rattle.peer_link.specs.Place.{token}
use Rattle.peer_link.specs.Peer.{PeerState, IsPeer, answered}
use Rattle.peer_link.specs.Meeting.{AgreesWith, Grows, Meet, Talks, peer}
use Rattle.device_sync.specs.Requests.{first_since}
use Rattle.peer_link.proofs.Exchanges.{answered_both, all_parts, honest_parts, last_from, last_both}
use Rattle.peer_link.proofs.Outcome.{one_end, stays_well}

-- ---- no exchange of a turn is open

last_turn : (turns : List Turn) → last_from true (map exchange_of turns) ≡ true
last_turn [] = refl
last_turn (x ∷ turns) = last_turn turns

-- some turn was taken
data Some_turn (turns : List Turn) : Type 0 where
  turn : (x : Turn) (rest : List Turn) → turns ≡ x ∷ rest → Some_turn turns

not_open : (xs : List Exchange) (x : Turn) (turns : List Turn) → IsOpen (Some (xs ++ map exchange_of (x ∷ turns))) → ⊥
not_open xs x turns (front, sent, e) =
    let yes : last_from false (xs ++ map exchange_of (x ∷ turns)) ≡ true = last_both false xs (map exchange_of (x ∷ turns)) ∙ last_turn turns in
    let no : last_from false (front ++ begun sent ∷ []) ≡ false = last_both false front (begun sent ∷ []) in
    absurd (let h : true ≡ false = sym yes ∙ ap (last_from false) e ∙ no in cc)

answered_turns : (turns : List Turn) → answered (map exchange_of turns) ≡ map exchange_of turns
answered_turns [] = refl
answered_turns (x ∷ turns) = ap (λ (l : List Exchange). exchange_of x ∷ l) (answered_turns turns)

-- ---- one sync

some_turn : (target : Target) (reading : ℕ) (since : List ℕ) (s now : State) (turns : List Turn) (o : Outcome) → Talk target reading most_requests since s turns now o → o ≡ agreed → Some_turn turns
some_turn target reading since s now [] o talk e = absurd (let h : going_on since ≡ agreed = sym talk.outcome ∙ e in cc)
some_turn target reading since s now (x ∷ turns) o talk e = turn x turns refl

-- where the link told what the server had, it tells what it has, and the sync is one with an honest server
agrees_over : (m n : List Message) (p q : PeerState) (r : List Message) (x : Turn) (turns : List Turn) (synced : Synced) → IsPeer p → IsPeer q → p.messages ≡ Some r
    → q.exchanges ≡ p.exchanges ++ map exchange_of (x ∷ turns) → MeetsHonest token m (Some p.exchanges) (Some q.exchanges) n (Ok synced) → (told : Option (List Message)) → q.messages ≡ told → AgreesWith m p q n
agrees_over m n p q r x turns synced old new had are meets None told =
    absurd (not_open p.exchanges x turns (subst (λ (xs : List Exchange). IsOpen (Some xs)) are (new.lost told)))
agrees_over m n p q r x turns synced old new had are meets (Some s) told =
    let added = map exchange_of (x ∷ turns) in
    let split : answered q.exchanges ≡ answered p.exchanges ++ added = ap answered are ∙ answered_both p.exchanges added ∙ ap (λ (l : List Exchange). answered p.exchanges ++ l) (answered_turns (x ∷ turns)) in
    let parts = honest_parts token [] s (answered p.exchanges) added (subst (λ (l : List Exchange). Honest token [] l s) split (new.honest s told)) in
    let same_set : parts.0 ≡ r = one_end (answered p.exchanges) [] parts.0 r old.within old.asked parts.1.0 (old.honest r had) in
    let honest : Honest token r added s = subst (λ (z : List Message). Honest token z added s) same_set parts.1.1 in
    let within : AreWithin added = (all_parts _ (answered p.exchanges) added (subst AreWithin split new.within)).1 in
    let well = stays_well (answered p.exchanges) [] r old.asked (old.honest r had) (in_order_nil stamp_of stamp_cmp, tt) in
    record {
      had = r;
      had_it = had;
      has = s;
      has_it = told;
      added = added;
      are_added = are;
      converges = meets added r s (p.exchanges, (refl, ap Some are)) well.0 well.1 honest within;
    }

-- the exchanges of the turns alone were added, where none stands behind them
added_turns : (p q : PeerState) (old new : Told) (turns : List Turn) (late : List Exchange) → late ≡ [] → old.exchanges ≡ Some p.exchanges → new.exchanges ≡ Some q.exchanges
    → Adds old.exchanges new.exchanges (map exchange_of turns ++ late) → q.exchanges ≡ p.exchanges ++ map exchange_of turns
added_turns p q old new turns late none before after adds =
    let so : Adds (Some p.exchanges) (Some q.exchanges) (map exchange_of turns ++ late) =
    subst (λ (z : Option (List Exchange)). Adds (Some p.exchanges) z (map exchange_of turns ++ late)) after (subst (λ (z : Option (List Exchange)). Adds z new.exchanges (map exchange_of turns ++ late)) before adds) in
    so ∙ ap (λ (l : List Exchange). p.exchanges ++ l) (ap (λ (l : List Exchange). map exchange_of turns ++ l) none ∙ append-nil (map exchange_of turns))

pub agrees : (target : Target) (group : List ℕ) (reading : ℕ) (s : State) (old new : Told) (now : State) (p q : PeerState) (synced : Synced) → target.token ≡ token → IsPeer p → IsPeer q
    → ((r : List Message) × (p.messages ≡ Some r)) → old.exchanges ≡ Some p.exchanges → new.exchanges ≡ Some q.exchanges → HasTalked target group reading s old new now (Ok synced)
    → MeetsHonest target.token s.messages (Some p.exchanges) (Some q.exchanges) now.messages (Ok synced) → AgreesWith s.messages p q now.messages
agrees target group reading s old new now p q synced same was is had before after talked meets =
    let h = talked.conversed in
    let none = h.answered.1.0 in
    let are = added_turns p q old new h.turns h.late none before after h.adds in
    let meets_so = subst (λ (t : List ℕ). MeetsHonest t s.messages (Some p.exchanges) (Some q.exchanges) now.messages (Ok synced)) same meets in
    by h.turns are (some_turn target reading _ s h.end h.turns h.outcome h.talk h.answered.0) meets_so
  where
    by : (turns : List Turn) → q.exchanges ≡ p.exchanges ++ map exchange_of turns → Some_turn turns → MeetsHonest token s.messages (Some p.exchanges) (Some q.exchanges) now.messages (Ok synced) → AgreesWith s.messages p q now.messages
    by turns are (turn x rest e) meets_so = agrees_over s.messages now.messages p q had.0 x rest synced was is had.1 (are ∙ ap (λ (l : List Turn). p.exchanges ++ map exchange_of l) e) meets_so q.messages refl

-- ---- three syncs

-- a set rises, so it is told by its look-ups
by_stamps : (xs ys : List Message) → IsRising xs → IsRising ys → ((k : Stamp) → at_stamp xs k ≡ at_stamp ys k) → xs ≡ ys
by_stamps xs ys up down h = same stamp_of stamp_cmp stamps_total xs ys up down h

-- what joins a set again changes nothing, in either order
back_again : (m n : List Message) → IsRising m → IsRising n → HaveOneEach m n → (join m (join n m) ≡ join m n) × (join n m ≡ join m n)
back_again m n up down one = (
  by_stamps (join m (join n m)) (join m n) (rising m (join n m) up) (rising m n up) (λ k. found m (join n m) k ∙ ap (option_or (at_stamp m k)) (found n m k) ∙ twice (at_stamp m k) (at_stamp n k) ∙ sym (found m n k)),
  by_stamps (join n m) (join m n) (rising n m down) (rising m n up) (λ k. found n m k ∙ turned (at_stamp m k) (at_stamp n k) (one k) ∙ sym (found m n k)),
)
  where
    twice : (a b : Option Message) → option_or a (option_or b a) ≡ option_or a b
    twice (Some a) b = refl
    twice None (Some b) = refl
    twice None None = refl

    turned : (a b : Option Message) → ((x y : Message) → a ≡ Some x → b ≡ Some y → x ≡ y) → option_or b a ≡ option_or a b
    turned (Some a) (Some b) h = ap (λ (x : Message). Some x) (sym (h a b refl refl))
    turned (Some a) None h = refl
    turned None (Some b) h = refl
    turned None None h = refl

-- and its timestamps mean the same messages
with_join : (m n : List Message) → HaveOneEach m n → HaveOneEach m (join n m)
with_join m n one = λ k a b there here. by (at_stamp n k) k a b refl there (sym (found n m k) ∙ here)
  where
    by : (o : Option Message) (k : Stamp) (a b : Message) → at_stamp n k ≡ o → at_stamp m k ≡ Some a → option_or (at_stamp n k) (at_stamp m k) ≡ Some b → a ≡ b
    by None k a b is there here = let e : Some a ≡ Some b = sym there ∙ sym (ap (λ (o : Option Message). option_or o (at_stamp m k)) is) ∙ here in cc
    by (Some c) k a b is there here = let e : Some c ≡ Some b = sym (ap (λ (o : Option Message). option_or o (at_stamp m k)) is) ∙ here in one k a b there (is ∙ e)

turn_round : (m n : List Message) → HaveOneEach m n → HaveOneEach n m
turn_round m n one = λ k a b there here. sym (one k b a here there)

with_none : (m : List Message) → HaveOneEach m []
with_none m = λ k a b there here. absurd (cc)

same_told : {a b : List Message} → Some a ≡ Some b → a ≡ b
same_told e = cc

-- in turns: the first, the other, and the first again
pub all_meet : (m n a q p : List Message) (l0 l1 l2 l3 : PeerState) → IsRising m → IsRising n → l0.messages ≡ Some [] → AgreesWith m l0 l1 a → AgreesWith n l1 l2 q → AgreesWith a l2 l3 p → Meet m n p q l3
all_meet m n a q p l0 l1 l2 l3 up down empty one two three = record {
  between = a;
  one = one.has;
  two = two.has;
  three = three.has;
  is_last = three.has_it;
  root_one = one.converges.roots refl;
  root_two = two.converges.roots refl;
  root_three = three.converges.roots refl;
  sets = λ first second third each.
      let none : one.had ≡ [] = same_told (sym one.had_it ∙ empty) in
      let after_one = one.converges.sets refl first (subst (λ (z : List Message). HaveOneEach m z) (sym none) (with_none m)) in
      let device : a ≡ m = after_one.0 ∙ ap (join m) none in
      let server : one.has ≡ m = after_one.1 ∙ ap (join m) none in
      let had_two : two.had ≡ m = same_told (sym two.had_it ∙ one.has_it) ∙ server in
      let after_two = two.converges.sets refl second (subst (λ (z : List Message). HaveOneEach n z) (sym had_two) (turn_round m n each)) in
      let other : q ≡ join n m = after_two.0 ∙ ap (join n) had_two in
      let server_two : two.has ≡ join n m = after_two.1 ∙ ap (join n) had_two in
      let had_three : three.had ≡ join n m = same_told (sym three.had_it ∙ two.has_it) ∙ server_two in
      let each_three : HaveOneEach a three.had = subst (λ (z : List Message). HaveOneEach z three.had) (sym device) (subst (λ (z : List Message). HaveOneEach m z) (sym had_three) (with_join m n each)) in
      let after_three = three.converges.sets refl third each_three in
      let whole : join a three.had ≡ join m (join n m) = ap (λ (z : List Message). join z three.had) device ∙ ap (join m) had_three in
      let back = back_again m n up down each in
      (after_three.0 ∙ whole ∙ back.0, (other ∙ back.1, after_three.1 ∙ whole ∙ back.0));
}

-- ---- what was there is there still

grows_on : (a b c : List Message) → Grows a b → Grows b c → Grows a c
grows_on a b c one other = λ k m h. other k m (one k m h)

grows_same : (a b : List Message) → b ≡ a → Grows a b
grows_same a b e = subst (λ (z : List Message). Grows a z) (sym e) (λ k m h. h)

compared_reaches : (left : ℕ) (q : State) (f : Held) (d : Option ℕ) → reached (compared left q f d) ≡ q
compared_reaches left q f None = refl
compared_reaches zero q f (Some moment) = refl
compared_reaches (suc left) q f (Some moment) = refl

grown_end : (target : Target) (s end now : State) (o : Outcome) (late : List Exchange) (P : Synced → Type 0) → Grows s.messages end.messages → (result : Result Synced SyncFault)
    → IsAnswered target end o late now P result → IfUsable result (Grows s.messages now.messages)
grown_end target s end now o late P all result answered = by result answered
  where
    so : now ≡ end → Grows s.messages now.messages
    so e = subst (λ (z : State). Grows s.messages z.messages) (sym e) all

    by : (r : Result Synced SyncFault) → IsAnswered target end o late now P r → IfUsable r (Grows s.messages now.messages)
    by (Ok synced) a = so a.1.1.0
    by (Err Link) a = so a.1.1.1
    by (Err (BadReply at)) a = so a.1.1
    by (Err (Refused status)) a = so a.1.1
    by (Err (OutOfSync mine theirs)) a = so a.1.1
    by (Err (Clock fault)) a = so a.1.1
    by (Err Keeper) a = tt
    by (Err NoMemory) a = tt

module _ (law : ReceivedAreJoined) (reading : ℕ) where
  reached_grows : (left : ℕ) (p : State) (got : Got) → Grows p.messages (reached (next reading left p got)).messages
  reached_grows left p (refusal status) = λ k m h. h
  reached_grows left p (bad at) = λ k m h. h
  reached_grows left p (answer ms f) = by (received p ms reading) refl
    where
      by : (r : Result Accepted LineRefusal) → received p ms reading ≡ r → Grows p.messages (reached (taken left p f r)).messages
      by (Err fault) e = λ k m h. h
      by (Ok accepted) e = λ k m h.
          ap (λ (z : State). at_stamp z.messages k) (compared_reaches left accepted.state f (difference (trie_in accepted.state) f))
          ∙ ap (λ (z : List Message). at_stamp z k) (law p ms reading accepted e).joined ∙ found p.messages ms k ∙ ap (λ (o : Option Message). option_or o (at_stamp ms k)) h

  pub talk_grows : (target : Target) (left : ℕ) (since : List ℕ) (p now : State) (turns : List Turn) (o : Outcome) → Talk target reading left since p turns now o → Grows p.messages now.messages
  talk_grows target left since p now [] o h = grows_same p.messages now.messages (ap (λ (z : State). z.messages) h.stays)
  talk_grows target zero since p now (x ∷ xs) o h = absurd h
  talk_grows target (suc left) since p now (x ∷ xs) o h =
      grows_on p.messages (reached (next reading left p x.got)).messages now.messages (reached_grows left p x.got)
      (by (next reading left p x.got) h.2 (λ q moment k. talk_grows target left (moment_text moment) q now xs o k))
    where
      by : (n : Next) → Follows n xs now o (λ q moment. Talk target reading left (moment_text moment) q xs now o)
          → ((q : State) (moment : ℕ) → Talk target reading left (moment_text moment) q xs now o → Grows q.messages now.messages) → Grows (reached n).messages now.messages
      by (ends q how) e go = grows_same q.messages now.messages (ap (λ (z : State). z.messages) e.stays)
      by (asks q moment) e go = go q moment e

  -- whatever a sync comes to after which the device can be used
  pub sync_grows : (target : Target) (group : List ℕ) (s : State) (old new : Told) (now : State) (result : Result Synced SyncFault) → HasTalked target group reading s old new now result
      → IfUsable result (Grows s.messages now.messages)
  sync_grows target group s old new now result talked =
      let h = talked.conversed in
      grown_end target s h.end now h.outcome h.late (IsCounted s h.turns h.end) (talk_grows target most_requests _ s h.end h.turns h.outcome h.talk) result h.answered

-- ---- at any reading

some_of : {A : Type 0} (o : Option A) → IsSome o → (x : A) × (o ≡ Some x)
some_of None h = absurd (cc)
some_of (Some x) h = (x, refl)

always : {P : Type 0} (result : Result Synced SyncFault) → P → IfUsable result P
always (Ok synced) h = h
always (Err Link) h = h
always (Err (BadReply at)) h = h
always (Err (Refused status)) h = h
always (Err (OutOfSync mine theirs)) h = h
always (Err (Clock fault)) h = h
always (Err Keeper) h = tt
always (Err NoMemory) h = tt

within_or : (reading : ℕ) → (reading / 60_000 < window) ⊎ (window ≤ reading / 60_000)
within_or reading = elim (cases_Bool (nat_lt (reading / 60_000) window)) [ inl below ↦ inl (ltb-true (reading / 60_000) window below) | inr above ↦ inr (ltb-false (reading / 60_000) window above) ]

-- past the window there is no agreement
pub agrees_if : (target : Target) (group : List ℕ) (reading : ℕ) (fault : SyncFault) (s : State) (old new : Told) (now : State) (p q : PeerState) (result : Result Synced SyncFault) → target.token ≡ token → IsPeer p → IsPeer q
    → IsSome p.messages → old.exchanges ≡ Some p.exchanges → new.exchanges ≡ Some q.exchanges → (window ≤ reading / 60_000 → result ≡ Err fault)
    → (reading / 60_000 < window → HasTalked target group reading s old new now result)
    → (reading / 60_000 < window → MeetsHonest target.token s.messages (Some p.exchanges) (Some q.exchanges) now.messages result)
    → IfOk result (λ done. AgreesWith s.messages p q now.messages)
agrees_if target group reading fault s old new now p q (Err other) same was is had before after beyond talked meets = tt
agrees_if target group reading fault s old new now p q (Ok synced) same was is had before after beyond talked meets = by (within_or reading)
  where
    by : ((reading / 60_000 < window) ⊎ (window ≤ reading / 60_000)) → AgreesWith s.messages p q now.messages
    by (inl below) = agrees target group reading s old new now p q synced same was is (some_of p.messages had) before after (talked below) (meets below)
    by (inr above) = absurd (let h : ◌≡◌ {A = Result Synced SyncFault} (Ok synced) (Err fault) = beyond above in cc)

pub talks_if : (target : Target) (group : List ℕ) (reading : ℕ) (fault : SyncFault) (s : State) (old new : Told) (now : State) (p q : PeerState) (result : Result Synced SyncFault) → target ≡ peer
    → old.exchanges ≡ Some p.exchanges → new.exchanges ≡ Some q.exchanges → (window ≤ reading / 60_000 → result ≡ Err fault)
    → (reading / 60_000 < window → HasTalked target group reading s old new now result)
    → IfOk result (λ synced. Talks reading s now p.exchanges q.exchanges synced)
talks_if target group reading fault s old new now p q (Err other) same before after beyond talked = tt
talks_if target group reading fault s old new now p q (Ok synced) same before after beyond talked = by (within_or reading)
  where
    by : ((reading / 60_000 < window) ⊎ (window ≤ reading / 60_000)) → Talks reading s now p.exchanges q.exchanges synced
    by (inr above) = absurd (let h : ◌≡◌ {A = Result Synced SyncFault} (Ok synced) (Err fault) = beyond above in cc)
    by (inl below) =
        let told = talked below in
        let h = told.conversed in
        let none = h.answered.1.0 in
        let is_now = h.answered.1.1.0 in
        let count = h.answered.1.1.1 in
        let talk : Talk peer reading most_requests (first_since told.since reading) s h.turns now agreed =
        subst (λ (t : Target). Talk t reading most_requests (first_since told.since reading) s h.turns now agreed) same
        (subst (λ (z : State). Talk target reading most_requests (first_since told.since reading) s h.turns z agreed) (sym is_now)
        (subst (λ (o : Outcome). Talk target reading most_requests (first_since told.since reading) s h.turns h.end o) h.answered.0 h.talk)) in
        record {
          last = told.since;
          turns = h.turns;
          talk = talk;
          added = added_turns p q old new h.turns h.late none before after h.adds;
          requests = count.0;
          received = count.1 ∙ ap (λ (z : State). length z.messages - length s.messages) (sym is_now);
        }

pub grows_if : ReceivedAreJoined → (target : Target) (group : List ℕ) (reading : ℕ) (s : State) (old new : Told) (now : State) (result : Result Synced SyncFault) → (window ≤ reading / 60_000 → now ≡ s)
    → (reading / 60_000 < window → HasTalked target group reading s old new now result) → IfUsable result (Grows s.messages now.messages)
grows_if law target group reading s old new now result beyond talked = by (within_or reading)
  where
    by : ((reading / 60_000 < window) ⊎ (window ≤ reading / 60_000)) → IfUsable result (Grows s.messages now.messages)
    by (inl below) = sync_grows law reading target group s old new now result (talked below)
    by (inr above) = always result (grows_same s.messages now.messages (ap (λ (z : State). z.messages) (beyond above)))
