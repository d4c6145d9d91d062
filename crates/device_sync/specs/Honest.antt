-- An honest server.
use Rattle.std.specs.Prelude.{◌≡◌, ◌⊎◌, ℕ, ◌<◌, ◌≤◌, List, [], ◌∷◌, length, take, Some}
use Rattle.std.specs.List.{AllByRecursion}
use Rattle.budget_ports.specs.Exchanges.{Exchange}
use Rattle.field_merge.specs.declared.message.Message.{Message}
use Rattle.field_merge.specs.Messages.{AreMessages}
use Rattle.field_merge.specs.Log.{join}
use Rattle.sync_wire.specs.declared.request.SyncRequest.{SyncRequest}
use Rattle.sync_wire.specs.Canon.{request_bytes}
use Rattle.sync_wire.specs.Wire.{IsResponse}
use Rattle.sync_server.specs.Answer.{answer_of}
use Rattle.device_sync.specs.Replies.{IsReply, most_bytes}
use Rattle.device_sync.specs.Requests.{head_text, IsAsked}

-- the first bytes of a text: one more than a reply may have are read, and no more
abbrev pub front_of : List ℕ → List ℕ
front_of text = take 268_435_457 text

-- the bytes are an answer with the status 200 to the request, of a server whose group has the messages r, and s then
pub record Answers (r : List Message) (q : SyncRequest) (text : List ℕ) (s : List Message) : Type 0 where
  pub body : List ℕ
  pub reply : IsReply text 200 body
  pub said : IsResponse body (answer_of r q)
  pub joined : s ≡ join r q.messages

-- a server takes no such request: its head has more than 65,536 bytes, or its body more than 67,108,864
abbrev pub IsTooLarge : List ℕ → SyncRequest → Type 0
IsTooLarge token q = (65_536 < length (head_text token (length (request_bytes q)))) ⊎ (67_108_864 < length (request_bytes q))

-- what was sent under the token is the text of no request but such a one
abbrev pub AsksTooMuch : List ℕ → List ℕ → Type 0
AsksTooMuch token sent = (q : SyncRequest) → IsAsked token q sent → IsTooLarge token q

-- a server may refuse an honest device: a request that is too large, and at want of memory or where its keeper fails
abbrev pub IsFairStatus : ℕ → Type 0
IsFairStatus status = (status ≡ 413) ⊎ ((status ≡ 503) ⊎ (status ≡ 507))

-- what was sent under the token was served by a server whose group has the messages r, and s then: whatever request it is the text of
-- was answered, or it was refused and nothing was joined, with 413 only where no server takes it
pub data Served (token : List ℕ) (r : List Message) (x : Exchange) (s : List Message) : Type 0 where
  answers : (text : List ℕ) → x.got ≡ Some (front_of text)
      → ((q : SyncRequest) → AreMessages q.messages → IsAsked token q x.sent → Answers r q text s) → Served token r x s
  declines : (text : List ℕ) → x.got ≡ Some (front_of text) → (status : ℕ) (body : List ℕ) → IsReply text status body → IsFairStatus status → (status ≡ 413 → AsksTooMuch token x.sent)
      → s ≡ r → Served token r x s

-- so it was with each, one after the other
abbrev pub Honest : List ℕ → List Message → List Exchange → List Message → Type 0
Honest token r [] s = s ≡ r
Honest token r (x ∷ xs) s = (t : List Message) × Served token r x t × Honest token t xs s

-- each reply has at most the bytes that it may have
abbrev pub AreWithin : List Exchange → Type 0
AreWithin = AllByRecursion (λ x. (came : List ℕ) → x.got ≡ Some came → length came ≤ most_bytes)
