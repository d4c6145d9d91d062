-- Servers with equal groups answer equally.
use Rattle.std.proofs.Common.{◌≡◌, ◌∙◌, ℕ, List, [], take, Result, sym, ap, subst}
use Rattle.budget_ports.specs.Contents.{Contents, Text}
use Rattle.field_merge.specs.declared.message.Message.{Message}
use Rattle.sync_wire.specs.declared.request.SyncRequest.{SyncRequest}
use Rattle.sync_wire.specs.Canon.{response_bytes}
use Rattle.sync_server.specs.declared.refusal.Refusal.{Refusal}
use Rattle.sync_server.specs.Answer.{answer_of}
use Rattle.sync_server.specs.Laws.{ConnectionsAreDecided, AcceptedAreKept}
use Rattle.sync_server.specs.Outside.{HasFound}
use Rattle.sync_server.specs.Replies.{accepted_bytes}
use Rattle.sync_server.specs.Serving.{Verdict, Ends, Refuses, Accepts, Decides, by_head, too_large, no_head, bytes_end, DecidesRest, refused, short, whole, DecidesBody, no_request, request}
use Rattle.sync_laws.specs.Equal.{HaveEqualGroups, ServersAnswerEqually}

module _ (k c : Contents) (same : HaveEqualGroups k c) where
  moved_body : (body : List ℕ) (v : Verdict) → DecidesBody (HasFound c) body v → DecidesBody (HasFound k) body v
  moved_body body v (no_request fault is e) = no_request fault is e
  moved_body body v (request q found is finds e) = request q found is (finds ∙ sym (same q)) e

  moved_rest : (rest : List ℕ) (length_or : Result ℕ Refusal) (v : Verdict) → DecidesRest (HasFound c) rest length_or v → DecidesRest (HasFound k) rest length_or v
  moved_rest rest length_or v (refused refusal is e) = refused refusal is e
  moved_rest rest length_or v (short n is less e) = short n is less e
  moved_rest rest length_or v (whole n is fits d) = whole n is fits (moved_body (take n rest) v d)

  moved : (token : Text) (came : List ℕ) (v : Verdict) → Decides token (HasFound c) came v → Decides token (HasFound k) came v
  moved token came v (by_head head more rest near far d) = by_head head more rest near far (moved_rest rest _ v d)
  moved token came v (too_large none many e) = too_large none many e
  moved token came v (no_head none e) = no_head none e
  moved token came v (bytes_end none few e) = bytes_end none few e

-- what is written to a request that is accepted
abbrev answer_bytes : Verdict → List ℕ
answer_bytes (Accepts ms q) = accepted_bytes (response_bytes (answer_of ms q))
answer_bytes (Refuses refusal) = accepted_bytes []
answer_bytes Ends = accepted_bytes []

-- bytes that are accepted have one verdict
one_answer : ConnectionsAreDecided → (token : Text) (k : Contents) (came : List ℕ) (ms ns : List Message) (q r : SyncRequest) → Decides token (HasFound k) came (Accepts ms q) → Decides token (HasFound k) came (Accepts ns r)
    → Accepts ms q ≡ Accepts ns r
one_answer law token k came ms ns q r (by_head head more rest near far d) other =
    let one = law.one_verdict token k came head more near in
    (one.1 (Accepts ms q)).0 (by_head head more rest near far d) ∙ sym ((one.1 (Accepts ns r)).0 other)
one_answer law token k came ms ns q r (too_large none many e) other = absurd (cc)
one_answer law token k came ms ns q r (no_head none e) other = absurd (cc)
one_answer law token k came ms ns q r (bytes_end none few e) other = absurd (cc)

pub servers_equal : ConnectionsAreDecided → AcceptedAreKept → ServersAnswerEqually
servers_equal decided kept token k c one other same came mine theirs =
    let a = kept.answered token k one mine in
    let b = kept.answered token c other theirs in
    let there : Decides token (HasFound k) one.came (Accepts b.0 b.1) = subst (λ (bytes : List ℕ). Decides token (HasFound k) bytes (Accepts b.0 b.1)) (sym came) (moved k c same token other.came (Accepts b.0 b.1) b.3) in
    a.4 ∙ ap answer_bytes (one_answer decided token k one.came a.0 b.0 a.1 b.1 a.3 there) ∙ sym b.4
