-- One turn of a conversation, and what is kept of it.
use Rattle.std.proofs.Common.{◌≡◌, ◌⊎◌, inl, inr, ℕ, zero, suc, ◌*◌, ◌<◌, List, [], ◌∷◌, Option, None, Some, Result, Ok, Err, OnErr, false, ℤ, map, refl, sym, ap, ap₂, ◌∙◌, subst, append-nil, arith}
use Rattle.budget_ports.specs.Contents.{Contents, appended}
use Rattle.budget_ports.specs.Exchanges.{Exchange, ended, Adds}
use Rattle.budget_ports.specs.Keeper.{Commits, IsAlone, LeavesNoMore}
use Rattle.field_merge.specs.declared.message.Message.{Message}
use Rattle.field_merge.specs.Messages.{AreMessages}
use Rattle.field_merge.specs.Log.{join}
use Rattle.hybrid_clock.specs.Stamp.{window}
use Rattle.minute_trie.specs.declared.trie.Trie.{Trie}
use Rattle.minute_trie.specs.Held.{Held}
use Rattle.minute_trie.specs.Trie.{held, trie_of, IsTrieOf}
use Rattle.minute_trie.specs.Diff.{difference}
use Rattle.kept_messages.specs.Holding.{Holds, BatchesAreKept}
use Rattle.kept_messages.specs.News.{new_in}
use Rattle.kept_messages.specs.Pairs.{pairs_of}
use Rattle.kept_messages.specs.Records.{record_of}
use Rattle.device_core.specs.declared.edit.LineRefusal.{LineRefusal}
use Rattle.device_core.specs.declared.edit.LineRefusal.TheVariants.{Clock as OfClock}
use Rattle.device_core.specs.Device.{State, DeviceState, Accepted, accepted_as, IsAccepted, received}
use Rattle.device_core.proofs.Received.{received_joined}
use Rattle.device_sync.specs.declared.fault.SyncFault.{SyncFault}
use Rattle.device_sync.specs.declared.fault.SyncFault.TheVariants.{Link, BadReply, Refused, OutOfSync, Clock, Keeper, NoMemory}
use Rattle.device_sync.specs.declared.round.Compared.{Compared}
use Rattle.device_sync.specs.declared.round.Compared.TheVariants.{Agreed, Differ}
use Rattle.device_sync.specs.declared.target.Target.{Target}
use Rattle.device_sync.specs.Replies.{Got, answer, refusal, bad, IsJudged}
use Rattle.sync_wire.specs.declared.request.SyncRequest.{SyncRequest}
use Rattle.sync_wire.specs.Wire.{IsRequest}
use Rattle.sync_wire.specs.Canon.{request_bytes}
use Rattle.device_sync.specs.Requests.{request_of}
use Rattle.device_sync.specs.Talk.{root_of, trie_in, Next, ends, agreed, bad_reply, refused, not_taken, compared, taken, next}
use Rattle.device_sync.specs.Sync.{Told, reached, IsKept, KeepsOrNot, TakesOrNot, IsLateTurn, IsCut, text_of, IsUnanswered, TakesTurn, further, AreCompared, IsLeft, IsSettled, IsRound, IsTaken, Carries, fails_link}
use Rattle.device_sync.proofs.Conversation.{told_minute, told_small}

-- ---- the tries

pub compared_none : (ms : List Message) (own : Trie) (f : Held) → IsTrieOf (pairs_of ms) own → None ≡ difference (held own) f → difference (trie_of (pairs_of ms)) f ≡ None
compared_none ms own f is h = ap (λ (g : Held). difference g f) (sym is.same) ∙ sym h

pub compared_some : (ms : List Message) (own : Trie) (f : Held) (moment : ℕ) → IsTrieOf (pairs_of ms) own → Some moment ≡ difference (held own) f → difference (trie_of (pairs_of ms)) f ≡ Some moment
compared_some ms own f moment is h = ap (λ (g : Held). difference g f) (sym is.same) ∙ sym h

pub root_is : (ms : List Message) (own : Trie) (z w : ℤ) → IsTrieOf (pairs_of ms) own → z ≡ w → w ≡ root_of (held own) → z ≡ root_of (trie_of (pairs_of ms))
root_is ms own z w is same h = same ∙ h ∙ ap root_of is.same

pub small_moment : (f g : Held) (moment : ℕ) → difference f g ≡ Some moment → moment < 60_000 * window
small_moment f g moment h = let is = told_minute f g moment h in let small = told_small f g in omega arith

-- ---- what is kept

with_texts : (group : List ℕ) (entry now : Contents) (ms : List Message) → Holds group entry now ms → Holds group (record entry { texts = now.texts }) now ms
with_texts group entry now ms h = record {
  messages = h.messages;
  kept = h.kept;
  written = h.written;
  others = record { records = h.others.records; texts = refl };
}

pub carries_same : (group : List ℕ) (ms : List Message) (before now : Contents) → now ≡ before → Carries group ms ms before now
carries_same group ms before now is = λ entry h. with_texts group entry now ms (subst (λ (k : Contents). Holds group entry k ms) (sym is) h)

pub carries_both : (group : List ℕ) (a b c : List Message) (first mid last : Contents) → Carries group a b first mid → Carries group b c mid last → Carries group a c first last
carries_both group a b c first mid last one other = λ entry h. other (record entry { texts = mid.texts }) (one entry h)

pub take_carries : BatchesAreKept → (group : List ℕ) (s : State) (ns : List Message) (reading count : ℕ) (d n : DeviceState) (before now : Contents) → AreMessages ns → IsAccepted (received s ns reading) d count
    → n ≡ record d { batch = [] } → now ≡ appended before group d.batch → Carries group s.messages n.state.messages before now
take_carries law group s ns reading count d n before now valid is left kept = λ entry h.
    let a = received_joined s ns reading (accepted_as d count) is in
    let all : Holds group entry (appended before group (map record_of (new_in s.messages ns))) (join s.messages ns) = law group entry before s.messages ns valid h in
    let there : appended before group (map record_of (new_in s.messages ns)) ≡ now = ap (appended before group) (sym a.pending) ∙ sym kept in
    let messages : join s.messages ns ≡ n.state.messages = sym a.joined ∙ ap (λ (z : DeviceState). z.state.messages) (sym left) in
    with_texts group entry now n.state.messages
    (subst (λ (ms : List Message). Holds group entry now ms) messages (subst (λ (k : Contents). Holds group entry k (join s.messages ns)) there all))

reached_compared : (left : ℕ) (p : State) (f : Held) (o : Option ℕ) → reached (compared left p f o) ≡ p
reached_compared left p f None = refl
reached_compared zero p f (Some moment) = refl
reached_compared (suc left) p f (Some moment) = refl

-- what a batch that was received leaves where it is kept
pub taken_kept : BatchesAreKept → (group : List ℕ) (s : State) (ns : List Message) (reading count : ℕ) (d : DeviceState) (before now : Contents) → AreMessages ns → IsAccepted (received s ns reading) d count
    → now ≡ appended before group d.batch → (f : Held) → IsKept group s (answer ns f) reading before now
taken_kept law group s ns reading count d before now valid is kept f = record {
  messages = λ left. subst (λ (ms : List Message). Carries group s.messages ms before now) (sym (ap (λ (z : State). z.messages) (reached_by left)))
      (take_carries law group s ns reading count d (record d { batch = [] }) before now valid is refl kept);
  texts = ap (λ (k : Contents). k.texts) kept;
}
  where
    reached_by : (left : ℕ) → reached (next reading left s (answer ns f)) ≡ d.state
    reached_by left = ap (λ (r : Result Accepted LineRefusal). reached (taken left s f r)) is ∙ reached_compared left d.state f (difference (trie_in d.state) f)

-- what a stop leaves where the batch may not have been kept
pub stops_taken : BatchesAreKept → (group : List ℕ) (s : State) (ns : List Message) (reading count : ℕ) (d : DeviceState) (told : Type 0) (before : Contents) (left new : Contents → Type 0) → AreMessages ns
    → IsAccepted (received s ns reading) d count → Commits told left new (appended before group d.batch) → IsAlone told before left → (c : Contents) → new c → told × TakesOrNot group s ns reading before c
stops_taken law group s ns reading count d told before left new valid is commits alone c may = by (commits c may)
  where
    by : left c ⊎ (told × (c ≡ appended before group d.batch)) → told × TakesOrNot group s ns reading before c
    by (inl there) = let same = alone c there in (same.0, inl same.1)
    by (inr kept) = (kept.0, inr (taken_kept law group s ns reading count d before c valid is kept.1))

pub with_trie : (group : List ℕ) (s : State) (ns : List Message) (f : Held) (reading : ℕ) (told : Type 0) (before c : Contents) → told × TakesOrNot group s ns reading before c → told × KeepsOrNot group s (answer ns f) reading before c
with_trie group s ns f reading told before c (knows, inl same) = (knows, inl same)
with_trie group s ns f reading told before c (knows, inr all) = (knows, inr (all f))

-- ---- an answer

further_is : (s : State) (f : Held) (moment left : ℕ) → compared left s f (Some moment) ≡ further s moment (root_of (trie_in s)) (root_of f) left
further_is s f moment zero = refl
further_is s f moment (suc left) = refl

then_compared : (s : State) (ns : List Message) (f : Held) (reading left : ℕ) (now : State) (accepted : Accepted) → received s ns reading ≡ Ok accepted → now ≡ accepted.state
    → next reading left s (answer ns f) ≡ compared left now f (difference (trie_in now) f)
then_compared s ns f reading left now accepted is state = ap (taken left s f) is ∙ ap (λ (z : State). compared left z f (difference (trie_in z) f)) (sym state)

pub answer_joined : (s : State) (ns : List Message) (f : Held) (reading : ℕ) (now : State) (c : Compared) → IsTaken s ns reading now (Ok (tt {0})) → AreCompared (trie_in now) f c → IsSettled s (answer ns f) reading now (Ok c)
answer_joined s ns f reading now Agreed (accepted, (is, state)) h = λ left. then_compared s ns f reading left now accepted is state ∙ ap (compared left now f) h
answer_joined s ns f reading now (Differ moment mine theirs) (accepted, (is, state)) h = λ left.
    then_compared s ns f reading left now accepted is state ∙ ap (compared left now f) h.0 ∙ further_is now f moment left
    ∙ ap₂ (λ (a b : ℤ). further now moment a b left) (sym h.1.0) (sym h.1.1)

pub answer_failed : (s : State) (ns : List Message) (f : Held) (reading : ℕ) (now : State) (fault : SyncFault) → IsTaken s ns reading now (Err fault) → IsSettled s (answer ns f) reading now (Err fault)
answer_failed s ns f reading now Link h = absurd h
answer_failed s ns f reading now (BadReply at) h = absurd h
answer_failed s ns f reading now (Refused status) h = absurd h
answer_failed s ns f reading now (OutOfSync mine theirs) h = absurd h
answer_failed s ns f reading now (Clock fault) h = (λ left. ap (taken left s f) h.0, h.1)
answer_failed s ns f reading now Keeper h = tt
answer_failed s ns f reading now NoMemory h = tt

-- ---- a turn

adds_none : (old : Option (List Exchange)) → Adds old old []
adds_none None = tt
adds_none (Some all) = sym (append-nil all)

-- ---- what a stop may leave of a turn

abbrev pub Stopped : Told → Told → (Contents → Contents → Type 0) → Type 0
Stopped old new P = IsAlone old.tells old.contents old.left → (c : Contents) → new.left c → old.tells × P old.contents c

module _ (target : Target) (group : List ℕ) (reading : ℕ) (since : List ℕ) (s : State) (old new : Told) where
  -- what a cut leaves where the keeper was not called
  abbrev Cut : Type 0
  Cut = IsLeft (text_of target since s) old.exchanges new.exchanges (IsCut target group reading since s old new)

  same_stop : LeavesNoMore old.left new.left → (late : List Exchange) → IsAlone old.tells old.contents old.left → (c : Contents) → new.left c
      → old.tells × ((c ≡ old.contents) ⊎ IsLateTurn target group reading since s late old.contents c)
  same_stop no_more late a c may = let is = a c (no_more c may) in (is.0, inl is.1)

  pub nothing_sent : new.exchanges ≡ old.exchanges → LeavesNoMore old.left new.left → Cut
  nothing_sent links no_more = record {
    late = [];
    adds = subst (λ (x : Option (List Exchange)). Adds old.exchanges x []) (sym links) (adds_none old.exchanges);
    is_late = record { unjudged = inl (inl refl); stops = same_stop no_more [] };
  }

  pub not_judged : (sent : List ℕ) → sent ≡ text_of target since s → IsLeft sent old.exchanges new.exchanges IsUnanswered → LeavesNoMore old.left new.left → Cut
  not_judged sent is h no_more =
      let there : IsLeft (text_of target since s) old.exchanges new.exchanges IsUnanswered = subst (λ (t : List ℕ). IsLeft t old.exchanges new.exchanges IsUnanswered) is h in record {
        late = there.late;
        adds = there.adds;
        is_late = record { unjudged = inl there.is_late; stops = same_stop no_more there.late };
      }

  pub came_alone : (sent came : List ℕ) → sent ≡ text_of target since s → Adds old.exchanges new.exchanges (ended sent came ∷ []) → LeavesNoMore old.left new.left → Cut
  came_alone sent came is adds no_more = record {
    late = ended sent came ∷ [];
    adds = adds;
    is_late = record { unjudged = inr (came, ap (λ (t : List ℕ). ended t came ∷ []) is); stops = same_stop no_more (ended sent came ∷ []) };
  }

  -- a reply came and was judged
  pub judged_cut : (sent came : List ℕ) (got : Got) → sent ≡ text_of target since s → IsRequest (request_bytes (request_of target since s.messages)) (request_of target since s.messages)
      → Adds old.exchanges new.exchanges (ended sent came ∷ []) → IsJudged came got → Stopped old new (KeepsOrNot group s got reading) → Cut
  judged_cut sent came got is means adds judged stops = record {
    late = ended sent came ∷ [];
    adds = adds;
    is_late = record {
      unjudged = inr (came, ap (λ (t : List ℕ). ended t came ∷ []) is);
      stops = λ a c may. let is_one = stops a c may in (
        is_one.0,
        elim is_one.1 [
          | inl same ↦ inl same
          | inr kept ↦ inr (record { turn = record { sent = sent; came = came; got = got }; sent = record { text = is; means = means }; judged = judged; is_late = refl; kept = kept })
        ],
      );
    };
  }

pub sent_alone : (text sent : List ℕ) (old new : Option (List Exchange)) → sent ≡ text → IsLeft sent old new IsUnanswered → IsLeft text old new IsUnanswered
sent_alone text sent old new is h = subst (λ (t : List ℕ). IsLeft t old new IsUnanswered) is h

pub turn_taken : (target : Target) (reading : ℕ) (since : List ℕ) (s : State) (old new : Option (List Exchange)) (sent came : List ℕ) (got : Got) (after : ℕ → Next)
    → sent ≡ text_of target since s → IsRequest (request_bytes (request_of target since s.messages)) (request_of target since s.messages) → Adds old new (ended sent came ∷ []) → IsJudged came got → ((left : ℕ) → next reading left s got ≡ after left) → TakesTurn target reading since s old new after
turn_taken target reading since s old new sent came got after is means adds judged follows = record { turn = record { sent = sent; came = came; got = got }; sent = record { text = is; means = means }; judged = judged; adds = adds; follows = follows }

pub settled_refusal : (s : State) (reading status : ℕ) → IsSettled s (refusal status) reading s (Err (Refused status))
settled_refusal s reading status = (λ left. refl, refl)

pub settled_bad : (s : State) (reading at : ℕ) → IsSettled s (bad at) reading s (Err (BadReply at))
settled_bad s reading at = (λ left. refl, refl)

module _ (target : Target) (group : List ℕ) (reading : ℕ) (since : List ℕ) (s : State) (old new : Told) (now : State) (sent came : List ℕ) (got : Got)
    (is : sent ≡ text_of target since s) (means : IsRequest (request_bytes (request_of target since s.messages)) (request_of target since s.messages))
    (adds : Adds old.exchanges new.exchanges (ended sent came ∷ [])) (judged : IsJudged came got) where
  taken_so : (after : ℕ → Next) → ((left : ℕ) → next reading left s got ≡ after left) → TakesTurn target reading since s old.exchanges new.exchanges after
  taken_so after h = turn_taken target reading since s old.exchanges new.exchanges sent came got after is means adds judged h

  pub round_settled : (r : Result Compared SyncFault) → IsSettled s got reading now r → OnErr r (Stopped old new (KeepsOrNot group s got reading)) → IsRound target group reading since s old new now r
  round_settled (Ok Agreed) h stops = taken_so (λ left. ends now agreed) h
  round_settled (Ok (Differ moment mine theirs)) h stops = taken_so (further now moment mine theirs) h
  round_settled (Err Link) h stops = absurd h
  round_settled (Err (BadReply at)) h stops = (taken_so (λ left. ends s (bad_reply at)) h.0, h.1)
  round_settled (Err (Refused status)) h stops = (taken_so (λ left. ends s (refused status)) h.0, h.1)
  round_settled (Err (OutOfSync mine theirs)) h stops = absurd h
  round_settled (Err (Clock fault)) h stops = (taken_so (λ left. ends s (not_taken (OfClock fault))) h.0, h.1)
  round_settled (Err Keeper) h stops = judged_cut target group reading since s old new sent came got is means adds judged stops
  round_settled (Err NoMemory) h stops = judged_cut target group reading since s old new sent came got is means adds judged stops

-- the link has not failed where something came
pub not_linked : (s : State) (got : Got) (reading : ℕ) (now : State) (r : Result Compared SyncFault) → IsSettled s got reading now r → fails_link r ≡ false
not_linked s got reading now (Ok c) h = refl
not_linked s got reading now (Err Link) h = absurd h
not_linked s got reading now (Err (BadReply at)) h = refl
not_linked s got reading now (Err (Refused status)) h = refl
not_linked s got reading now (Err (OutOfSync mine theirs)) h = refl
not_linked s got reading now (Err (Clock fault)) h = refl
not_linked s got reading now (Err Keeper) h = refl
not_linked s got reading now (Err NoMemory) h = refl

-- a request's bytes mean it
pub means_itself : (q : SyncRequest) (bytes : List ℕ) → bytes ≡ request_bytes q → IsRequest bytes q → IsRequest (request_bytes q) q
means_itself q bytes is means = subst (λ (z : List ℕ). IsRequest z q) is means

pub means_same : (q p : SyncRequest) → q ≡ p → IsRequest (request_bytes q) q → IsRequest (request_bytes p) p
means_same q p same means = subst (λ (z : SyncRequest). IsRequest (request_bytes z) z) same means
