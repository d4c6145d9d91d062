-- What is kept of the requests that a server has answered, what is answered, and what is written of it.
use Rattle.std.specs.Prelude.{◌≡◌, ◌↔◌, ◌+◌, ℕ, List, [], ◌∷◌, ◌++◌, length, codes, true, Ok}
use Rattle.std.specs.Fmt.{decimal}
use Rattle.std.specs.List.{Contains}
use Rattle.std.specs.Ordering.{is_gt, nat_cmp}
use Rattle.std.specs.Cmp.Lexicographic.{slice_cmp}
use Rattle.hybrid_clock.specs.Stamp.{stamp_text}
use Rattle.budget_ports.specs.Contents.{Contents, Text, records_after}
use Rattle.field_merge.specs.declared.message.Message.{Message}
use Rattle.field_merge.specs.Log.{IsRising, join}
use Rattle.kept_messages.specs.Records.{kept_set}
use Rattle.sync_wire.specs.declared.request.SyncRequest.{SyncRequest}
use Rattle.sync_wire.specs.declared.response.SyncResponse.{SyncResponse}
use Rattle.sync_wire.specs.Canon.{response_bytes}
use Rattle.sync_server.specs.declared.served.Served.TheVariants.{Answered, Cut}
use Rattle.sync_server.specs.Serving.{Accepts, Visit}
use Rattle.sync_server.specs.Replies.{accepted_bytes}
use Rattle.budget_top.specs.Serving.{Turn, AreServed, kept_by, end_lines}

-- the group keeps messages, and these are among them
pub record KeepsAll (contents : Contents) (group : Text) (ms : List Message) : Type 0 where
  pub set : List Message
  pub is_set : kept_set (records_after contents group []) ≡ Ok set
  pub has : (m : Message) → Contains ms m → Contains set m

-- the connection was answered with 200: the request q, over a group that had the messages ms
pub record IsAnswered (t : Turn) (ms : List Message) (q : SyncRequest) : Type 0 where
  pub end : t.end ≡ Answered 200
  pub verdict : t.visit.verdict ≡ Accepts ms q

-- of each request that was answered with 200 the group keeps all that it had, and the messages of the request; of one timestamp the first
abbrev pub KeepAnswered : List Turn → Contents → Type 0
KeepAnswered ts contents = (t : Turn) (ms : List Message) (q : SyncRequest) → Contains ts t → IsAnswered t ms q → KeepsAll contents q.group (join ms q.messages)

-- such an answer, where these contents were kept before it
pub record IsToldRight (before : Contents) (t : Turn) (ms : List Message) (q : SyncRequest) : Type 0 where
  -- the group had these messages
  pub had : kept_set (records_after before q.group []) ≡ Ok ms
  pub reply : SyncResponse
  pub wrote : t.visit.wrote ≡ accepted_bytes (response_bytes reply)
  -- those of them are answered whose timestamp's text is greater than the one asked for, from the oldest on, and no other
  pub exactly : (m : Message) → Contains reply.messages m ↔ (Contains ms m × (is_gt (slice_cmp nat_cmp (stamp_text m.stamp) q.since) ≡ true))
  pub in_order : IsRising reply.messages

-- connections that were served one after the other over a keeper that tells
pub record AnswersStay : Type 0 where
  -- each answer of 200 is right, over what was kept then
  pub told : (token : Text) (k : Contents) (earlier later : List Turn) (t : Turn) (ms : List Message) (q : SyncRequest) →
      AreServed (Unit {0}) token k (earlier ++ t ∷ later) → IsAnswered t ms q → IsToldRight (kept_by k earlier) t ms q
  -- and of what was answered all is kept behind each later connection
  pub kept : (token : Text) (k : Contents) (earlier later : List Turn) → AreServed (Unit {0}) token k (earlier ++ later) → KeepAnswered earlier (kept_by k (earlier ++ later))

-- what is written of connections: behind the lines of others, the number of the connection among all, and the status of its answer, or `cut`
pub record EndsAreTold : Type 0 where
  pub none : end_lines [] ≡ []
  pub answered : (earlier : List Turn) (visit : Visit) (status : ℕ)
      → end_lines (earlier ++ record { visit = visit; end = Answered status } ∷ []) ≡ end_lines earlier ++ (decimal (length earlier + 1) ++ 32 ∷ (decimal status ++ 10 ∷ []))
  pub cut : (earlier : List Turn) (visit : Visit)
      → end_lines (earlier ++ record { visit = visit; end = Cut } ∷ []) ≡ end_lines earlier ++ (decimal (length earlier + 1) ++ 32 ∷ (codes "cut" ++ 10 ∷ []))
