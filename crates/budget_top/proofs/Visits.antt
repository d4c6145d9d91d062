-- One connection: what its verdict makes of the contents.
use Rattle.std.proofs.Common.{◌≡◌, ℕ, ◌==◌, Bool, true, false, cond, List, [], length, take, Option, Some, None, Result, Ok, Err, refl, sym, ap, subst, ◌∙◌}
use Rattle.std.specs.Prelude.{bytes_eq}
use Rattle.budget_ports.specs.Contents.{Contents, Text, records_after}
use Rattle.field_merge.specs.declared.message.Message.{Message}
use Rattle.field_merge.specs.Log.{join}
use Rattle.field_merge.specs.Messages.{AreMessages}
use Rattle.kept_messages.specs.Records.{kept_set}
use Rattle.sync_wire.specs.declared.request.SyncRequest.{SyncRequest}
use Rattle.sync_server.specs.declared.refusal.Refusal.{Refusal}
use Rattle.sync_server.specs.declared.refusal.Refusal.TheVariants.{FileHasReset, SinceRequired, EncryptedMessage}
use Rattle.sync_server.specs.declared.served.Served.{Served}
use Rattle.sync_server.specs.declared.served.Served.TheVariants as served
use Rattle.sync_server.specs.Serving.{Found, Verdict, Ends, Refuses, Accepts, judge_set, judge_found, judge_request, DecidesBody, DecidesRest, Decides, Means, Visit, IsServed, kept_after}
use Rattle.sync_server.specs.Outside.{HasFound}
use Rattle.budget_top.specs.Answers.{KeepsAll}
use Rattle.budget_top.specs.ServeSteps.{KeepsMore}
use Rattle.budget_top.proofs.Requests.{request_valid}
use Rattle.budget_top.proofs.Growing.{grown_set, grown_more}

-- ---- what else is found is Means.decided of as well

module _ (token : Text) (F G : SyncRequest → Found → Type 0) (on : (q : SyncRequest) (found : Found) → F q found → G q found) where
  body_on : (body : List ℕ) (v : Verdict) → DecidesBody F body v → DecidesBody G body v
  body_on body v (DecidesBody.no_request fault is e) = DecidesBody.no_request fault is e
  body_on body v (DecidesBody.request q found is has e) = DecidesBody.request q found is (on q found has) e

  rest_on : (rest : List ℕ) (r : Result ℕ Refusal) (v : Verdict) → DecidesRest F rest r v → DecidesRest G rest r v
  rest_on rest r v (DecidesRest.refused refusal is e) = DecidesRest.refused refusal is e
  rest_on rest r v (DecidesRest.short n is less e) = DecidesRest.short n is less e
  rest_on rest r v (DecidesRest.whole n is within b) = DecidesRest.whole n is within (body_on (take n rest) v b)

  pub decides_on : (came : List ℕ) (v : Verdict) → Decides token F came v → Decides token G came v
  decides_on came v (Decides.by_head head more rest front has r) = Decides.by_head head more rest front has (rest_on rest _ v r)
  decides_on came v (Decides.too_large none long e) = Decides.too_large none long e
  decides_on came v (Decides.no_head never e) = Decides.no_head never e
  decides_on came v (Decides.bytes_end none less e) = Decides.bytes_end none less e

  means_on : (came : List ℕ) (failed : Bool) (v : Verdict) → Means token F came failed v → Means token G came failed v
  means_on came failed v (Means.decided is d) = Means.decided is (decides_on came v d)
  means_on came failed v (Means.keeper_fault is asks e) = Means.keeper_fault is asks e
  means_on came failed v (Means.no_memory is e) = Means.no_memory is e

  pub served_on : (visit : Visit) (end : Served) → IsServed token F visit end → IsServed token G visit end
  served_on visit (served.Answered status) (IsServed.answered s m has wrote fine) = IsServed.answered s (means_on visit.came visit.keeper_failed visit.verdict m) has wrote fine
  served_on visit served.Cut (IsServed.ended is d wrote keeper door) = IsServed.ended is (decides_on visit.came Ends d) wrote keeper door
  served_on visit served.Cut (IsServed.unread is front back cut undecided wrote keeper door) = IsServed.unread is front back cut undecided wrote keeper door
  served_on visit served.Cut (IsServed.unwritten m rest is some door) = IsServed.unwritten (means_on visit.came visit.keeper_failed visit.verdict m) rest is some door

-- ---- what is accepted

module _ (ms : List Message) (r : SyncRequest) where
  by_set : (q : SyncRequest) (s : Result (List Message) ℕ) → judge_set q s ≡ Accepts ms r → (q ≡ r) × (s ≡ Ok ms)
  by_set q (Ok xs) e = let asked : q ≡ r = cc in let same : xs ≡ ms = cc in (asked, ap (λ x. Ok x) same)
  by_set q (Err index) e = absurd cc

  by_group : (q : SyncRequest) (o : Option Text) (s : Result (List Message) ℕ) → judge_found q o s ≡ Accepts ms r → (q ≡ r) × (s ≡ Ok ms)
  by_group q None s e = absurd cc
  by_group q (Some g) s e = by (bytes_eq g q.group) e
    where
      by : (b : Bool) → cond b (judge_set q s) (Refuses FileHasReset) ≡ Accepts ms r → (q ≡ r) × (s ≡ Ok ms)
      by true k = by_set q s k
      by false k = absurd cc

  by_request : (q : SyncRequest) (found : Found) → judge_request q found ≡ Accepts ms r → (q ≡ r) × (found.set ≡ Ok ms)
  by_request q found e = by q.encrypted (length q.since == 0) e
    where
      by : (b c : Bool) → cond b (Refuses EncryptedMessage) (cond c (Refuses SinceRequired) (judge_found q found.group found.set)) ≡ Accepts ms r → (q ≡ r) × (found.set ≡ Ok ms)
      by true c k = absurd cc
      by false true k = absurd cc
      by false false k = by_group q found.group found.set k

-- a request that is accepted over these contents is valid, and its group has these messages there
abbrev IsGood : Contents → List Message → SyncRequest → Type 0
IsGood k ms q = AreMessages q.messages × (kept_set (records_after k q.group []) ≡ Ok ms)

module _ (token : Text) (k : Contents) (ms : List Message) (q : SyncRequest) where
  good_body : (body : List ℕ) (v : Verdict) → v ≡ Accepts ms q → DecidesBody (HasFound k) body v → IsGood k ms q
  good_body body v is (DecidesBody.no_request fault at e) = absurd (let no = sym is ∙ e in cc)
  good_body body v is (DecidesBody.request p found at has e) =
      let both = by_request ms q p found (sym e ∙ is) in
      let P : SyncRequest → Type 0 = λ x. AreMessages x.messages × (kept_set (records_after k x.group []) ≡ Ok ms) in
      subst P both.0 (request_valid body p at, ap (λ (f : Found). f.set) (sym has) ∙ both.1)

  good_rest : (rest : List ℕ) (r : Result ℕ Refusal) (v : Verdict) → v ≡ Accepts ms q → DecidesRest (HasFound k) rest r v → IsGood k ms q
  good_rest rest r v is (DecidesRest.refused refusal at e) = absurd (let no = sym is ∙ e in cc)
  good_rest rest r v is (DecidesRest.short n at less e) = absurd (let no = sym is ∙ e in cc)
  good_rest rest r v is (DecidesRest.whole n at within b) = good_body (take n rest) v is b

  pub good : (came : List ℕ) (v : Verdict) → v ≡ Accepts ms q → Decides token (HasFound k) came v → IsGood k ms q
  good came v is (Decides.by_head head more rest front has r) = good_rest rest _ v is r
  good came v is (Decides.too_large none long e) = absurd (let no = sym is ∙ e in cc)
  good came v is (Decides.no_head never e) = absurd (let no = sym is ∙ e in cc)
  good came v is (Decides.bytes_end none less e) = absurd (let no = sym is ∙ e in cc)

-- what is decided of contents keeps all that they keep
pub decided_more : (token : Text) (k : Contents) (came : List ℕ) (v : Verdict) → Decides token (HasFound k) came v → KeepsMore k (kept_after v k)
decided_more token k came Ends d = λ group ms keeps. keeps
decided_more token k came (Refuses refusal) d = λ group ms keeps. keeps
decided_more token k came (Accepts ms q) d = let g = good token k ms q came (Accepts ms q) refl d in grown_more k q.group ms q.messages g.0 g.1

-- and the messages of the request, where it is accepted
pub decided_set : (token : Text) (k : Contents) (came : List ℕ) (ms : List Message) (q : SyncRequest) → Decides token (HasFound k) came (Accepts ms q) → KeepsAll (kept_after (Accepts ms q) k) q.group (join ms q.messages)
decided_set token k came ms q d =
    let g = good token k ms q came (Accepts ms q) refl d in
    record { set = join ms q.messages; is_set = grown_set k q.group ms q.messages g.0 g.1; has = λ m c. c }

-- an accepted request was decided, whether its reply was written or not
means_decided : (token : Text) (F : SyncRequest → Found → Type 0) (came : List ℕ) (failed : Bool) (v : Verdict) (ms : List Message) (q : SyncRequest) → v ≡ Accepts ms q → Means token F came failed v → Decides token F came v
means_decided token F came failed v ms q is (Means.decided at d) = d
means_decided token F came failed v ms q is (Means.keeper_fault at asks e) = absurd (let no = sym is ∙ e in cc)
means_decided token F came failed v ms q is (Means.no_memory at e) = absurd (let no = sym is ∙ e in cc)

pub served_decided : (token : Text) (F : SyncRequest → Found → Type 0) (visit : Visit) (end : Served) (ms : List Message) (q : SyncRequest) → visit.verdict ≡ Accepts ms q → IsServed token F visit end → Decides token F visit.came visit.verdict
served_decided token F visit (served.Answered status) ms q is (IsServed.answered s m has wrote fine) = means_decided token F visit.came visit.keeper_failed visit.verdict ms q is m
served_decided token F visit served.Cut ms q is (IsServed.ended at d wrote keeper door) = absurd (let no = sym is ∙ at in cc)
served_decided token F visit served.Cut ms q is (IsServed.unread at front back cut undecided wrote keeper door) = absurd (let no = sym is ∙ at in cc)
served_decided token F visit served.Cut ms q is (IsServed.unwritten m rest at some door) = means_decided token F visit.came visit.keeper_failed visit.verdict ms q is m
