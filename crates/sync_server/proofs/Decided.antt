-- What a connection decides.
use Rattle.std.specs.Prelude.{◌↔◌}
use Rattle.std.proofs.Common.{◌≡◌, ◌≢◌, ◌⊎◌, ◌∙◌, ◌<◌, ◌≤◌, ◌-◌, ℕ, List, [], ◌++◌, length, take, drop, true, false, Result, Ok, Err, refl, sym, ap, subst, inl, inr, arith, nat_lt}
use Rattle.std.proofs.lemmas.List.{append-nil, take-append-drop}
use Rattle.httparse.specs.Grammar.{RequestHead, ReadsRequest}
use Rattle.httparse.proofs.GrammarLemmas.{request_unique}
use Rattle.budget_ports.specs.Contents.{Contents, Text}
use Rattle.field_merge.specs.declared.message.Message.{Message}
use Rattle.sync_wire.specs.declared.fault.WireFault.{WireFault}
use Rattle.sync_wire.specs.declared.request.SyncRequest.{SyncRequest}
use Rattle.sync_wire.specs.Wire.{IsRequest, IsRequestFault}
use Rattle.sync_wire.specs.Canon.{response_bytes}
use Rattle.sync_wire.specs.Laws.{IsEither}
use Rattle.sync_wire.proofs.Readings.{is_either, request_reads}
use Rattle.sync_server.specs.declared.refusal.Refusal.{Refusal}
use Rattle.sync_server.specs.declared.refusal.Refusal.TheVariants.{TooLarge, BadRequest, NotFound, MethodNotAllowed, LengthRequired, TokenNotFound, BadMessage, EncryptedMessage, SinceRequired, FileNotFound, FileHasReset, BadRecord, KeeperFault, NoMemory}
use Rattle.sync_server.specs.declared.served.Served.TheVariants as served
use Rattle.sync_server.specs.Answer.{answer_of}
use Rattle.sync_server.specs.Heads.{judge_head, HasHead, NeverHasHead}
use Rattle.sync_server.specs.Laws.{HasOneVerdict}
use Rattle.sync_server.specs.Outside.{HasFound}
use Rattle.sync_server.specs.Replies.{status_of, accepted_bytes}
use Rattle.sync_server.specs.Serving.{found_in, Verdict, Ends, Refuses, Accepts, judge_request, Decides, by_head, too_large, no_head, bytes_end, DecidesRest, refused, short, whole, DecidesBody, no_request, request, Means, decided, keeper_fault, no_memory, HasStatus, reply_of, kept_after, Visit, IsServed, answered}
use Rattle.sync_server.proofs.Fronts.{head_grows, in_front}

-- ---- one head

pub one_head : (bytes : List ℕ) (head other : RequestHead) (rest left : List ℕ) → HasHead bytes head rest → HasHead bytes other left → (head ≡ other) × (rest ≡ left)
one_head bytes head other rest left h k = request_unique bytes head other rest left h.reads k.reads

not_never : (bytes : List ℕ) (head : RequestHead) (rest : List ℕ) → HasHead bytes head rest → NeverHasHead bytes → ⊥
not_never bytes head rest h o =
    let few : length head.fields ≤ 64 = h.few in
    let many : 64 < length head.fields = o [] head rest (subst (λ (x : List ℕ). ReadsRequest x head rest) (sym (append-nil bytes)) h.reads) in
    omega (arith, few, many)

-- ---- one verdict

ok_is : (n : ℕ) (e : Refusal) → Ok n ≡ Err e → ⊥
ok_is n e p = cc

same_ok : (n m : ℕ) → ◌≡◌ {A = Result ℕ Refusal} (Ok n) (Ok m) → n ≡ m
same_ok n m p = cc

same_err : (e f : Refusal) → ◌≡◌ {A = Result ℕ Refusal} (Err e) (Err f) → e ≡ f
same_err e f p = cc

shorter : (n m : ℕ) → n < m → m ≤ n → ⊥
shorter n m p q = omega (arith, p, q)

above : (m n : ℕ) → nat_lt m n ≡ true → m < n
above m n e = grind arith

within : (m n : ℕ) → nat_lt m n ≡ false → n ≤ m
within m n e = grind arith

-- one of them holds, and no other
abbrev Only : (Verdict → Type 0) → Type 0
Only P = (v : Verdict) × P v × ((w : Verdict) → P w → w ≡ v)

module _ (k : Contents) where
  readings : (body : List ℕ) → IsEither (IsRequest body) (IsRequestFault body)
  readings body = is_either (IsRequest body) (IsRequestFault body) _ (request_reads body)

  by_meaning : (body : List ℕ) (q : SyncRequest) → IsRequest body q → (w : Verdict) → DecidesBody (HasFound k) body w → w ≡ judge_request q (found_in k q)
  by_meaning body q b w (no_request f c e) = absurd ((readings body).not_both q f b c)
  by_meaning body q b w (request r found c h e) = let s : r ≡ q = (readings body).one_meaning r q c b in
      e ∙ ap (judge_request r) h ∙ ap (λ (x : SyncRequest). judge_request x (found_in k x)) s

  by_fault : (body : List ℕ) (f : WireFault) → IsRequestFault body f → (w : Verdict) → DecidesBody (HasFound k) body w → w ≡ Refuses BadMessage
  by_fault body f b w (no_request g c e) = e
  by_fault body f b w (request r found c h e) = absurd ((readings body).not_both r f c b)

  by_body : (body : List ℕ) → Only (DecidesBody (HasFound k) body)
  by_body body = by (readings body).one
    where
      by : ((q : SyncRequest) × IsRequest body q) ⊎ ((f : WireFault) × IsRequestFault body f) → Only (DecidesBody (HasFound k) body)
      by (inl r) = (judge_request r.0 (found_in k r.0), request r.0 (found_in k r.0) r.1 refl refl, by_meaning body r.0 r.1)
      by (inr r) = (Refuses BadMessage, no_request r.0 r.1 refl, by_fault body r.0 r.1)

  -- a refusal of the head
  only_refused : (rest : List ℕ) (t : Result ℕ Refusal) (r : Refusal) → t ≡ Err r → (w : Verdict) → DecidesRest (HasFound k) rest t w → w ≡ Refuses r
  only_refused rest t r e w (refused s p q) = q ∙ ap Refuses (same_err s r (sym p ∙ e))
  only_refused rest t r e w (short n p l q) = absurd (ok_is n r (sym p ∙ e))
  only_refused rest t r e w (whole n p l d) = absurd (ok_is n r (sym p ∙ e))

  -- a body that is not whole
  only_ends : (rest : List ℕ) (t : Result ℕ Refusal) (n : ℕ) → t ≡ Ok n → length rest < n → (w : Verdict) → DecidesRest (HasFound k) rest t w → w ≡ Ends
  only_ends rest t n e less w (refused s p q) = absurd (ok_is n s (sym e ∙ p))
  only_ends rest t n e less w (short m p l q) = q
  only_ends rest t n e less w (whole m p l d) = absurd (shorter (length rest) n less (subst (λ (x : ℕ). x ≤ length rest) (same_ok m n (sym p ∙ e)) l))

  -- one that is
  only_whole : (rest : List ℕ) (t : Result ℕ Refusal) (n : ℕ) → t ≡ Ok n → n ≤ length rest → (w : Verdict) → DecidesRest (HasFound k) rest t w → w ≡ (by_body (take n rest)).0
  only_whole rest t n e fits w (refused s p q) = absurd (ok_is n s (sym e ∙ p))
  only_whole rest t n e fits w (short m p l q) = absurd (shorter (length rest) n (subst (λ (x : ℕ). length rest < x) (same_ok m n (sym p ∙ e)) l) fits)
  only_whole rest t n e fits w (whole m p l d) = (by_body (take n rest)).2 w (subst (λ (x : ℕ). DecidesBody (HasFound k) (take x rest) w) (same_ok m n (sym p ∙ e)) d)

  by_rest : (rest : List ℕ) (t : Result ℕ Refusal) → Only (DecidesRest (HasFound k) rest t)
  by_rest rest (Err r) = (Refuses r, refused r refl refl, only_refused rest (Err r) r refl)
  by_rest rest (Ok n) = elim (nat_lt (length rest) n) as (λ b. nat_lt (length rest) n ≡ b → Only (DecidesRest (HasFound k) rest (Ok n))) [
    | true ↦ λ e. (let less = above (length rest) n e in (Ends, short n refl less refl, only_ends rest (Ok n) n refl less))
    | false ↦ λ e. (let fits = within (length rest) n e in
        ((by_body (take n rest)).0, whole n refl fits (by_body (take n rest)).1, only_whole rest (Ok n) n refl fits))
  ] refl

  module _ (token : Text) (came : List ℕ) (head : RequestHead) (more rest : List ℕ) (near : HasHead (take 65536 came) head more) (far : HasHead came head rest) where
    -- what follows the head decides, and nothing else
    decides_rest : (w : Verdict) → Decides token (HasFound k) came w → DecidesRest (HasFound k) rest (judge_head token head) w
    decides_rest w (by_head other m r n f d) =
        let same = one_head came other head r rest f far in
        let there = subst (λ (x : RequestHead). DecidesRest (HasFound k) r (judge_head token x) w) same.0 d in
        subst (λ (x : List ℕ). DecidesRest (HasFound k) x (judge_head token head) w) same.1 there
    decides_rest w (too_large none l e) = absurd (none head more near.reads)
    decides_rest w (no_head never e) = absurd (not_never (take 65536 came) head more near never)
    decides_rest w (bytes_end none l e) = absurd (none head rest far.reads)

    decided_by : (v : Verdict) → DecidesRest (HasFound k) rest (judge_head token head) v → Decides token (HasFound k) came v
    decided_by v d = by_head head more rest near far d

whole_behind : (came : List ℕ) (head : RequestHead) (more : List ℕ) → HasHead (take 65536 came) head more → HasHead came head (more ++ drop 65536 came)
whole_behind came head more h = subst (λ (x : List ℕ). HasHead x head (more ++ drop 65536 came)) (take-append-drop 65536 came) (head_grows (take 65536 came) head more (drop 65536 came) h)

pub one_verdict : (token : Text) (k : Contents) (came : List ℕ) (head : RequestHead) (more : List ℕ) → HasHead (take 65536 came) head more → HasOneVerdict token k came
one_verdict token k came head more near =
    let rest : List ℕ = more ++ drop 65536 came in
    let far : HasHead came head rest = whole_behind came head more near in
    let only = by_rest k rest (judge_head token head) in
    let is : Decides token (HasFound k) came only.0 = decided_by k token came head more rest near far only.0 only.1 in
    (only.0, λ w. (λ d. only.2 w (decides_rest k token came head more rest near far w d), λ e. subst (Decides token (HasFound k) came) (sym e) is))

pub refused_by_head : (token : Text) (k : Contents) (front back : List ℕ) (head : RequestHead) (rest : List ℕ) (refusal : Refusal) (v : Verdict) → length front ≤ 65536 → HasHead front head rest
    → judge_head token head ≡ Err refusal → Decides token (HasFound k) (front ++ back) v ↔ (v ≡ Refuses refusal)
refused_by_head token k front back head rest refusal v few h e =
    let near = in_front front back head rest few h in
    let far = head_grows front head rest back h in
    let more : List ℕ = rest ++ take (65536 - length front) back in (
      λ d. only_refused k (rest ++ back) (judge_head token head) refusal e v (decides_rest k token (front ++ back) head more (rest ++ back) near far v d),
      λ q. decided_by k token (front ++ back) head more (rest ++ back) near far v (refused refusal e q),
    )

-- ---- what is kept, and what is replied

pub nothing_kept : (v : Verdict) (k : Contents) → ((ms : List Message) (q : SyncRequest) → v ≢ Accepts ms q) → kept_after v k ≡ k
nothing_kept Ends k n = refl
nothing_kept (Refuses refusal) k n = refl
nothing_kept (Accepts ms q) k n = absurd (n ms q refl)

not_ok : (refusal : Refusal) → 200 ≡ status_of refusal → ⊥
not_ok TooLarge e = omega (arith, e)
not_ok BadRequest e = omega (arith, e)
not_ok NotFound e = omega (arith, e)
not_ok MethodNotAllowed e = omega (arith, e)
not_ok LengthRequired e = omega (arith, e)
not_ok TokenNotFound e = omega (arith, e)
not_ok BadMessage e = omega (arith, e)
not_ok EncryptedMessage e = omega (arith, e)
not_ok SinceRequired e = omega (arith, e)
not_ok FileNotFound e = omega (arith, e)
not_ok FileHasReset e = omega (arith, e)
not_ok BadRecord e = omega (arith, e)
not_ok KeeperFault e = omega (arith, e)
not_ok NoMemory e = omega (arith, e)

accepted_is : (v : Verdict) → HasStatus v 200 → (ms : List Message) × (q : SyncRequest) × (v ≡ Accepts ms q)
accepted_is Ends h = absurd h
accepted_is (Refuses refusal) h = absurd (not_ok refusal h)
accepted_is (Accepts ms q) h = (ms, q, refl)

refuses_none : (refusal : Refusal) (ms : List Message) (q : SyncRequest) → Accepts ms q ≡ Refuses refusal → ⊥
refuses_none refusal ms q e = cc

module _ (token : Text) (k : Contents) (visit : Visit) where
  is_decided : (ms : List Message) (q : SyncRequest) → visit.verdict ≡ Accepts ms q → Means token (HasFound k) visit.came visit.keeper_failed visit.verdict → Decides token (HasFound k) visit.came (Accepts ms q)
  is_decided ms q e (decided f d) = subst (Decides token (HasFound k) visit.came) e d
  is_decided ms q e (keeper_fault f a r) = absurd (refuses_none KeeperFault ms q (sym e ∙ r))
  is_decided ms q e (no_memory f r) = absurd (refuses_none NoMemory ms q (sym e ∙ r))

  pub answered_ok : IsServed token (HasFound k) visit (served.Answered 200)
      → (ms : List Message) × (q : SyncRequest) × (visit.verdict ≡ Accepts ms q) × Decides token (HasFound k) visit.came (Accepts ms q) × (visit.wrote ≡ accepted_bytes (response_bytes (answer_of ms q)))
  answered_ok (answered status means has wrote door) =
      let a = accepted_is visit.verdict has in
      (a.0, a.1, a.2, is_decided a.0 a.1 a.2 means, wrote ∙ ap reply_of a.2)
