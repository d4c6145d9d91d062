-- What the laws say.
use Rattle.std.specs.Prelude.{◌≡◌, ◌≢◌, ◌↔◌, ◌⊎◌, ◌<◌, ◌≤◌, ℕ, List, [], ◌∷◌, ◌++◌, length, take, map, Some, None, Result, Ok, Err, codes, true, false}
use Rattle.std.specs.List.{Contains, AllByRecursion}
use Rattle.std.specs.Ordering.{is_gt, nat_cmp}
use Rattle.std.specs.Cmp.Lexicographic.{slice_cmp}
use Rattle.httparse.specs.Grammar.{RequestHead}
use Rattle.httparse.specs.Spans.{name_and_value}
use Rattle.budget_ports.specs.Contents.{Contents, Text, records_after}
use Rattle.hybrid_clock.specs.Stamp.{stamp_text}
use Rattle.field_merge.specs.declared.message.Message.{Message}
use Rattle.field_merge.specs.Messages.{AreMessages}
use Rattle.field_merge.specs.Log.{IsRising, at_stamp, join}
use Rattle.minute_trie.specs.declared.trie.Trie.{Trie}
use Rattle.minute_trie.specs.Trie.{held, IsTrieOf}
use Rattle.minute_trie.specs.Json.{trie_text}
use Rattle.kept_messages.specs.Pairs.{pairs_of}
use Rattle.kept_messages.specs.Records.{kept_set}
use Rattle.sync_wire.specs.declared.request.SyncRequest.{SyncRequest}
use Rattle.sync_wire.specs.Canon.{response_bytes}
use Rattle.sync_server.specs.declared.refusal.Refusal.{Refusal}
use Rattle.sync_server.specs.declared.refusal.Refusal.TheVariants.{NotFound, MethodNotAllowed, LengthRequired, BadRequest, TooLarge, TokenNotFound, EncryptedMessage, SinceRequired, FileNotFound, FileHasReset, BadRecord}
use Rattle.sync_server.specs.declared.served.Served.TheVariants as served
use Rattle.sync_server.specs.Answer.{answer_of}
use Rattle.sync_server.specs.Heads.{path_of, values_under, length_in, judge_head, HasHead}
use Rattle.sync_server.specs.Outside.{HasFound}
use Rattle.sync_server.specs.Replies.{accepted_bytes}
use Rattle.sync_server.specs.Serving.{Found, found_in, judge_request, Verdict, Accepts, Refuses, Decides, Visit, IsServed, kept_after}

-- ---- what is answered

pub record AnswersTell : Type 0 where
  -- those that the group had, with a timestamp whose text is greater than the one asked for
  pub exactly : (ms : List Message) (q : SyncRequest) (m : Message) → Contains (answer_of ms q).messages m ↔ (Contains ms m × (is_gt (slice_cmp nat_cmp (stamp_text m.stamp) q.since) ≡ true))
  -- so none that the group lacked, as those that are new in the request
  pub no_new : (ms : List Message) (q : SyncRequest) (m : Message) → at_stamp ms m.stamp ≡ None → Contains (answer_of ms q).messages m → ⊥
  -- from the oldest on, each once, as the group has them
  pub in_order : (ms : List Message) (q : SyncRequest) → IsRising ms → IsRising (answer_of ms q).messages
  -- the text is that of any trie of all that the group has then
  pub trie : (ms : List Message) (q : SyncRequest) (t : Trie) → IsTrieOf (pairs_of (join ms q.messages)) t → (answer_of ms q).merkle ≡ trie_text (held t)
  -- so a request without messages that follows is told the same text
  pub trie_after : (ms : List Message) (q r : SyncRequest) → r.messages ≡ [] → (answer_of (join ms q.messages) r).merkle ≡ (answer_of ms q).merkle

-- ---- what a head decides

-- the values of the fields of a head that have this name
abbrev pub values_in : List ℕ → RequestHead → List (List ℕ)
values_in name h = values_under name (map name_and_value h.fields)

-- a request to the path of a sync, with the method of a sync
pub record IsSync (h : RequestHead) : Type 0 where
  pub path : path_of h.target ≡ codes "/sync/sync"
  pub method : h.method ≡ codes "POST"

-- nothing tells how long the body is, or it comes in pieces
abbrev pub LacksLength : RequestHead → Type 0
LacksLength h = (values_in (codes "transfer-encoding") h ≢ []) ⊎ (values_in (codes "content-length") h ≡ [])

-- the length is told, by each field of its name this one
pub record TellsLength (h : RequestHead) (n : ℕ) : Type 0 where
  pub plain : values_in (codes "transfer-encoding") h ≡ []
  pub some : values_in (codes "content-length") h ≢ []
  pub each : AllByRecursion (λ text. length_in text ≡ Some n) (values_in (codes "content-length") h)

-- the first field of its name has the token as its value, all of it
abbrev pub HasToken : List ℕ → RequestHead → Type 0
HasToken token h = (others : List (List ℕ)) × (values_in (codes "x-actual-token") h ≡ token ∷ others)

-- the first row that holds of a head; where none does, a body is taken
pub data IsJudged (token : List ℕ) (h : RequestHead) (r : Result ℕ Refusal) : Type 0 where
  other_path : path_of h.target ≢ codes "/sync/sync" → r ≡ Err NotFound → IsJudged token h r
  other_method : path_of h.target ≡ codes "/sync/sync" → h.method ≢ codes "POST" → r ≡ Err MethodNotAllowed → IsJudged token h r
  no_length : IsSync h → LacksLength h → r ≡ Err LengthRequired → IsJudged token h r
  bad_length : IsSync h → (LacksLength h → ⊥) → ((n : ℕ) → TellsLength h n → ⊥) → r ≡ Err BadRequest → IsJudged token h r
  too_long : (n : ℕ) → IsSync h → TellsLength h n → 67108864 < n → r ≡ Err TooLarge → IsJudged token h r
  other_token : (n : ℕ) → IsSync h → TellsLength h n → n ≤ 67108864 → (HasToken token h → ⊥) → r ≡ Err TokenNotFound → IsJudged token h r
  takes : (n : ℕ) → IsSync h → TellsLength h n → n ≤ 67108864 → HasToken token h → r ≡ Ok n → IsJudged token h r

abbrev pub HeadsAreJudged : Type 0
HeadsAreJudged = (token : List ℕ) (h : RequestHead) (r : Result ℕ Refusal) → (judge_head token h ≡ r) ↔ IsJudged token h r

-- ---- what a request decides

-- a request with a text to ask from, none of whose envelopes is encrypted
abbrev pub IsFair : SyncRequest → Type 0
IsFair q = (q.encrypted ≡ false) × (q.since ≢ [])

-- the first row that holds of a request and of what the keeper has for it; where none does, it is accepted
pub data IsDecided (q : SyncRequest) (found : Found) (v : Verdict) : Type 0 where
  encrypted : q.encrypted ≡ true → v ≡ Refuses EncryptedMessage → IsDecided q found v
  no_since : q.encrypted ≡ false → q.since ≡ [] → v ≡ Refuses SinceRequired → IsDecided q found v
  no_file : IsFair q → found.group ≡ None → v ≡ Refuses FileNotFound → IsDecided q found v
  other_group : (group : Text) → IsFair q → found.group ≡ Some group → group ≢ q.group → v ≡ Refuses FileHasReset → IsDecided q found v
  bad_record : (index : ℕ) → IsFair q → found.group ≡ Some q.group → found.set ≡ Err index → v ≡ Refuses BadRecord → IsDecided q found v
  accepted : (ms : List Message) → IsFair q → found.group ≡ Some q.group → found.set ≡ Ok ms → v ≡ Accepts ms q → IsDecided q found v

abbrev pub RequestsAreJudged : Type 0
RequestsAreJudged = (q : SyncRequest) (found : Found) (v : Verdict) → (judge_request q found ≡ v) ↔ IsDecided q found v

-- ---- what a connection decides

-- over these contents one verdict is decided, and no other
abbrev pub HasOneVerdict : Text → Contents → List ℕ → Type 0
HasOneVerdict token k came = (v : Verdict) × ((w : Verdict) → Decides token (HasFound k) came w ↔ (w ≡ v))

pub record ConnectionsAreDecided : Type 0 where
  -- bytes have one head in front at most
  pub one_head : (bytes : List ℕ) (head other : RequestHead) (rest left : List ℕ) → HasHead bytes head rest → HasHead bytes other left → (head ≡ other) × (rest ≡ left)
  -- where it is whole within 65,536 bytes, there is one verdict
  pub one_verdict : (token : Text) (k : Contents) (came : List ℕ) (head : RequestHead) (more : List ℕ) → HasHead (take 65536 came) head more → HasOneVerdict token k came
  -- where it is refused, this is the verdict, whatever follows and whatever the keeper has
  pub by_head : (token : Text) (k : Contents) (front back : List ℕ) (head : RequestHead) (rest : List ℕ) (refusal : Refusal) (v : Verdict) → length front ≤ 65536 → HasHead front head rest
      → judge_head token head ≡ Err refusal → Decides token (HasFound k) (front ++ back) v ↔ (v ≡ Refuses refusal)

-- ---- what is kept

pub record AcceptedAreKept : Type 0 where
  -- nothing changes unless a request is accepted
  pub alone : (v : Verdict) (k : Contents) → ((ms : List Message) (q : SyncRequest) → v ≢ Accepts ms q) → kept_after v k ≡ k
  -- then the set of its group is joined with its messages
  pub joined : (k : Contents) (q : SyncRequest) (ms : List Message) → AreMessages q.messages → (found_in k q).set ≡ Ok ms
      → kept_set (records_after (kept_after (Accepts ms q) k) q.group []) ≡ Ok (join ms q.messages)
  -- each other group has the records that it had
  pub others : (k : Contents) (q : SyncRequest) (ms : List Message) (group : Text) → group ≢ q.group → records_after (kept_after (Accepts ms q) k) group [] ≡ records_after k group []
  -- and each file the group that it had
  pub texts : (k : Contents) (q : SyncRequest) (ms : List Message) → (kept_after (Accepts ms q) k).texts ≡ k.texts
  -- the status 200 is replied to a request that was accepted alone, with the answer to it
  pub answered : (token : Text) (k : Contents) (visit : Visit) → IsServed token (HasFound k) visit (served.Answered 200)
      → (ms : List Message) × (q : SyncRequest) × (visit.verdict ≡ Accepts ms q) × Decides token (HasFound k) visit.came (Accepts ms q) × (visit.wrote ≡ accepted_bytes (response_bytes (answer_of ms q)))
