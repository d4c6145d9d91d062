-- An honest server that may serve each request refuses none.
use Rattle.std.proofs.Common.{◌≡◌, ◌≢◌, inl, inr, ◌∙◌, ◌≤◌, ℕ, zero, suc, Bool, true, false, cond, List, [], ◌∷◌, length, map, Option, None, Some, Result, Ok, Err, refl, sym, ap, subst, arith}
use Rattle.std.specs.List.{AllByRecursion}
use Rattle.std.proofs.lemmas.List.{take_all, length-take}
use Rattle.hybrid_clock.specs.Moments.{moment_text}
use Rattle.field_merge.specs.declared.message.Message.{Message}
use Rattle.field_merge.specs.Messages.{AreMessages}
use Rattle.device_sync.proofs.Rounds.{is_later}
use Rattle.minute_trie.specs.declared.read.TrieFault.{TrieFault}
use Rattle.minute_trie.specs.Held.{Held}
use Rattle.minute_trie.specs.Diff.{difference}
use Rattle.minute_trie.specs.Faults.{fault_of_text}
use Rattle.sync_wire.specs.declared.request.SyncRequest.{SyncRequest}
use Rattle.sync_wire.specs.declared.response.SyncResponse.{SyncResponse}
use Rattle.device_core.specs.declared.edit.LineRefusal.{LineRefusal}
use Rattle.device_core.specs.Device.{State, Accepted, received}
use Rattle.device_core.proofs.Received.{received_joined}
use Rattle.device_sync.specs.declared.target.Target.{Target}
use Rattle.device_sync.specs.Honest.{front_of, Served, answers, declines, Honest}
use Rattle.device_sync.specs.Replies.{most_bytes, IsReply, Got, answer, refusal, bad, messages_of, with_trie, meant, IsJudged, too_long, no_reply, refuses, faulty, says}
use Rattle.device_sync.specs.Requests.{request_of, IsAsked}
use Rattle.device_sync.specs.Talk.{Outcome, refused, trie_in, Next, ends, asks, compared, taken, next, Turn, exchange_of, Follows, Talk}
use Rattle.device_sync.proofs.Judging.{one_reply}
use Rattle.device_sync.proofs.Sets.{those_valid, join_valid}
use Rattle.sync_laws.specs.Complete.{AreSmall, NeverDecline}

-- ---- a reply that is judged as a refusal

trie_not : (size : ℕ) (a : SyncResponse) (fault : Option TrieFault) (status : ℕ) → with_trie size a fault ≡ refusal status → ⊥
trie_not size a None status e = cc
trie_not size a (Some fault) status e = cc

meant_not : (size : ℕ) (a : SyncResponse) (status : ℕ) → meant size a ≡ refusal status → ⊥
meant_not size a status e = by a.encrypted e
  where
    by : (b : Bool) → cond b (bad size) (with_trie size a (fault_of_text a.merkle)) ≡ refusal status → ⊥
    by true h = cc
    by false h = trie_not size a (fault_of_text a.merkle) status h

-- it has a status, and another one than 200
pub record Declined (came : List ℕ) : Type 0 where
  pub status : ℕ
  pub body : List ℕ
  pub few : length came ≤ most_bytes
  pub reply : IsReply came status body
  pub other : status ≢ 200

judged_refusal : (came : List ℕ) (got : Got) (status : ℕ) → IsJudged came got → got ≡ refusal status → Declined came
judged_refusal came got status (too_long l e) is = let h : bad most_bytes ≡ refusal status = sym e ∙ is in absurd (cc)
judged_refusal came got status (no_reply l none e) is = let h : bad 0 ≡ refusal status = sym e ∙ is in absurd (cc)
judged_refusal came got status (refuses l code body reply other e) is = record { status = code; body = body; few = l; reply = reply; other = other }
judged_refusal came got status (faulty l body reply fault w place p e) is = let h = sym e ∙ is in absurd (cc)
judged_refusal came got status (says l body reply a w e) is = absurd (meant_not (length came) a status (sym e ∙ is))

whole : (came text : List ℕ) → came ≡ front_of text → length came ≤ most_bytes → came ≡ text
whole came text is few = is ∙ take_all 268_435_457 text (let n = ap length is ∙ length-take 268_435_457 text in omega (arith, n, few))

same_bytes : {a b : List ℕ} → Some a ≡ Some b → a ≡ b
same_bytes e = cc

-- so it has none
never_declined : (token : List ℕ) (r t : List Message) (x : Turn) (q : SyncRequest) → AreMessages q.messages → IsAsked token q x.sent → Served token r (exchange_of x) t
    → AreSmall token (exchange_of x ∷ []) → NeverDecline (exchange_of x ∷ []) → Declined x.came → ⊥
never_declined token r t x q valid asked (answers text is served) small never d =
    let a = served q valid asked in
    let all = whole x.came text (same_bytes is) d.few in
    d.other (one_reply x.came d.status 200 d.body a.body d.reply (subst (λ (z : List ℕ). IsReply z 200 a.body) (sym all) a.reply)).0
never_declined token r t x q valid asked (declines text is status body reply fair over stays) small never d =
    let all = whole x.came text (same_bytes is) d.few in
    let mine : IsReply x.came status body = subst (λ (z : List ℕ). IsReply z status body) (sym all) reply in
    let no_such = never.0 x.came body status refl mine in
    elim fair [
      | inl large ↦ small.0 q asked (over large q asked)
      | inr other ↦ elim other [ inl keeper ↦ no_such.0 keeper | inr memory ↦ no_such.1 memory ]
    ]

-- ---- a conversation

-- what comes next is no end by a refusal, and goes on with valid messages
abbrev Fine : Next → Type 0
Fine (ends q how) = (status : ℕ) → how ≡ refused status → ⊥
Fine (asks q moment) = AreMessages q.messages

compared_fine : (left : ℕ) (q : State) (f : Held) (d : Option ℕ) → AreMessages q.messages → Fine (compared left q f d)
compared_fine left q f None valid = λ status e. absurd (cc)
compared_fine zero q f (Some moment) valid = λ status e. absurd (cc)
compared_fine (suc left) q f (Some moment) valid = valid

taken_fine : (reading left : ℕ) (p : State) (ms : List Message) (f : Held) → AreMessages p.messages → AreMessages ms → (d : Result Accepted LineRefusal) → received p ms reading ≡ d → Fine (taken left p f d)
taken_fine reading left p ms f valid of (Err fault) is = λ status e. absurd (cc)
taken_fine reading left p ms f valid of (Ok accepted) is =
    compared_fine left accepted.state f (difference (trie_in accepted.state) f) (subst AreMessages (sym (received_joined p ms reading accepted is).joined) (join_valid p.messages ms valid of))

next_fine : (reading left : ℕ) (p : State) (g : Got) → AreMessages p.messages → AreMessages (messages_of g) → ((status : ℕ) → g ≡ refusal status → ⊥) → Fine (next reading left p g)
next_fine reading left p (answer ms f) valid of none = taken_fine reading left p ms f valid of (received p ms reading) refl
next_fine reading left p (refusal status) valid of none = absurd (none status refl)
next_fine reading left p (bad at) valid of none = λ status e. absurd (cc)

pub never_refused : (turns : List Turn) (target : Target) (reading left : ℕ) (since : List ℕ) (p now : State) (o : Outcome) (r s : List Message) (status : ℕ) → Talk target reading left since p turns now o → o ≡ refused status
    → AreMessages p.messages → AllByRecursion (λ (x : Turn). AreMessages (messages_of x.got)) turns → Honest target.token r (map exchange_of turns) s
    → AreSmall target.token (map exchange_of turns) → NeverDecline (map exchange_of turns) → ⊥
never_refused [] target reading left since p now o r s status talk is valid heard honest small never = let h = sym talk.outcome ∙ is in cc
never_refused (x ∷ xs) target reading zero since p now o r s status talk is valid heard honest small never = talk
never_refused (x ∷ xs) target reading (suc left) since p now o r s status talk is valid heard honest small never =
    by (next reading left p x.got)
    (next_fine reading left p x.got valid heard.0 (λ code e.
    never_declined target.token r honest.0 x (request_of target since p.messages) (those_valid (is_later since) p.messages valid) talk.0 honest.1 (small.0, tt) (never.0, tt) (judged_refusal x.came x.got code talk.1 e)))
    talk.2 (λ q moment of k. never_refused xs target reading left (moment_text moment) q now o honest.0 s status k is of heard.1 honest.2 small.1 never.1)
  where
    by : (n : Next) → Fine n → Follows n xs now o (λ q moment. Talk target reading left (moment_text moment) q xs now o)
        → ((q : State) (moment : ℕ) → AreMessages q.messages → Talk target reading left (moment_text moment) q xs now o → ⊥) → ⊥
    by (ends q how) fine e go = fine status (sym e.outcome ∙ is)
    by (asks q moment) fine e go = go q moment fine e
