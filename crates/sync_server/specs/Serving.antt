-- How a connection is answered.
use Rattle.std.specs.Prelude.{◌≡◌, ◌≢◌, ◌<◌, ◌≤◌, ℕ, List, [], ◌++◌, length, take, map, Bool, true, false, ◌==◌, Option, Some, None, Result, Ok, Err, codes, if◌then◌else◌}
use Rattle.std.specs.FinMap as map
use Rattle.std.specs.Str.{bytes_eq}
use Rattle.httparse.specs.Grammar.{RequestHead, HasNoRequest}
use Rattle.budget_ports.specs.declared.keeper.Record.{Record}
use Rattle.budget_ports.specs.Contents.{Contents, Text, records_after, appended}
use Rattle.field_merge.specs.declared.message.Message.{Message}
use Rattle.kept_messages.specs.Records.{record_of, kept_set}
use Rattle.kept_messages.specs.News.{new_in}
use Rattle.sync_wire.specs.declared.fault.WireFault.{WireFault}
use Rattle.sync_wire.specs.declared.request.SyncRequest.{SyncRequest}
use Rattle.sync_wire.specs.Wire.{IsRequest, IsRequestFault, IsResponse}
use Rattle.sync_wire.specs.Canon.{response_bytes}
use Rattle.sync_server.specs.declared.refusal.Refusal.{Refusal}
use Rattle.sync_server.specs.declared.refusal.Refusal.TheVariants.{TooLarge, BadRequest, BadMessage, EncryptedMessage, SinceRequired, FileNotFound, FileHasReset, BadRecord, KeeperFault, NoMemory}
use Rattle.sync_server.specs.declared.served.Served.{Served}
use Rattle.sync_server.specs.declared.served.Served.TheVariants as served
use Rattle.sync_server.specs.Answer.{answer_of}
use Rattle.sync_server.specs.Heads.{judge_head, HasHead, NeverHasHead, IsUndecided}
use Rattle.sync_server.specs.Replies.{status_of, refusal_bytes, accepted_bytes}

-- ---- what is decided

-- what the keeper has for a request: the group of its file, and the message set of its group, or the place of a record that keeps no message
pub record Found : Type 0 where
  pub group : Option Text
  pub set : Result (List Message) ℕ

-- the text `file/FILE` names the group of a file
abbrev pub file_name : Text → Text
file_name file = codes "file/" ++ file

-- what these contents have for a request
abbrev pub found_in : Contents → SyncRequest → Found
found_in contents q = record {
  group = map.get contents.texts (file_name q.file);
  set = kept_set (records_after contents q.group []);
}

-- what becomes of a connection: its bytes end before a request is whole, the request is refused, or it is answered over the messages of its group
pub data Verdict : Type 0 where
  Ends : Verdict
  Refuses : Refusal → Verdict
  Accepts : List Message → SyncRequest → Verdict

-- by the message set of the group
abbrev pub judge_set : SyncRequest → Result (List Message) ℕ → Verdict
judge_set q (Ok ms) = Accepts ms q
judge_set q (Err index) = Refuses BadRecord

-- by the group of the file, and then by the set
abbrev pub judge_found : SyncRequest → Option Text → Result (List Message) ℕ → Verdict
judge_found q None set = Refuses FileNotFound
judge_found q (Some group) set = if bytes_eq group q.group then judge_set q set else Refuses FileHasReset

-- by the request itself, and then by what the keeper has for it
abbrev pub judge_request : SyncRequest → Found → Verdict
judge_request q found =
    if q.encrypted then Refuses EncryptedMessage else (
    if length q.since == 0 then Refuses SinceRequired else judge_found q found.group found.set)

-- a whole body decides. Finds says what the keeper has for a request
pub data DecidesBody (Finds : SyncRequest → Found → Type 0) (body : List ℕ) (v : Verdict) : Type 0 where
  no_request : (fault : WireFault) → IsRequestFault body fault → v ≡ Refuses BadMessage → DecidesBody Finds body v
  request : (q : SyncRequest) (found : Found) → IsRequest body q → Finds q found → v ≡ judge_request q found → DecidesBody Finds body v

-- what follows a head decides, where the head takes a body of this length or refuses
pub data DecidesRest (Finds : SyncRequest → Found → Type 0) (rest : List ℕ) (length_or : Result ℕ Refusal) (v : Verdict) : Type 0 where
  refused : (refusal : Refusal) → length_or ≡ Err refusal → v ≡ Refuses refusal → DecidesRest Finds rest length_or v
  short : (n : ℕ) → length_or ≡ Ok n → length rest < n → v ≡ Ends → DecidesRest Finds rest length_or v
  whole : (n : ℕ) → length_or ≡ Ok n → n ≤ length rest → DecidesBody Finds (take n rest) v → DecidesRest Finds rest length_or v

-- The bytes of a connection decide. With a whole head in front it decides, or what follows it. Without, what may be found lies at
-- the reads: that 65,536 bytes hold none, that no bytes can complete one, or that the bytes ended.
pub data Decides (token : Text) (Finds : SyncRequest → Found → Type 0) (came : List ℕ) (v : Verdict) : Type 0 where
  by_head : (head : RequestHead) (more rest : List ℕ) → HasHead (take 65536 came) head more → HasHead came head rest
      → DecidesRest Finds rest (judge_head token head) v → Decides token Finds came v
  too_large : HasNoRequest (take 65536 came) → 65536 ≤ length came → v ≡ Refuses TooLarge → Decides token Finds came v
  no_head : NeverHasHead (take 65536 came) → v ≡ Refuses BadRequest → Decides token Finds came v
  bytes_end : HasNoRequest came → length came < 65536 → v ≡ Ends → Decides token Finds came v

-- the bytes are a whole request that nothing refuses before the keeper is asked
pub record AsksKeeper (token : Text) (came : List ℕ) : Type 0 where
  pub head : RequestHead
  pub more : List ℕ
  pub rest : List ℕ
  pub in_front : HasHead (take 65536 came) head more
  pub has : HasHead came head rest
  pub n : ℕ
  pub takes : judge_head token head ≡ Ok n
  pub whole : n ≤ length rest
  pub request : SyncRequest
  pub means : IsRequest (take n rest) request
  pub plain : request.encrypted ≡ false
  pub since : 0 < length request.since

-- what the server means to reply: what is decided; or it says that the keeper failed, or that memory ran out
pub data Means (token : Text) (Finds : SyncRequest → Found → Type 0) (came : List ℕ) (keeper_failed : Bool) (v : Verdict) : Type 0 where
  decided : keeper_failed ≡ false → Decides token Finds came v → Means token Finds came keeper_failed v
  keeper_fault : keeper_failed ≡ true → AsksKeeper token came → v ≡ Refuses KeeperFault → Means token Finds came keeper_failed v
  no_memory : keeper_failed ≡ false → v ≡ Refuses NoMemory → Means token Finds came keeper_failed v

-- ---- what comes of it

-- all bytes of the reply; where the bytes of the request end early there is none
abbrev pub reply_of : Verdict → List ℕ
reply_of Ends = []
reply_of (Refuses refusal) = refusal_bytes refusal
reply_of (Accepts ms q) = accepted_bytes (response_bytes (answer_of ms q))

-- the verdict has a reply, of this status
abbrev pub HasStatus : Verdict → ℕ → Type 0
HasStatus Ends status = ⊥
HasStatus (Refuses refusal) status = status ≡ status_of refusal
HasStatus (Accepts ms q) status = status ≡ 200

-- the bytes of an answer mean this answer, and no other
abbrev pub IsMeant : Verdict → Type 0
IsMeant Ends = Unit {0}
IsMeant (Refuses refusal) = Unit {0}
IsMeant (Accepts ms q) = IsResponse (response_bytes (answer_of ms q)) (answer_of ms q)

-- the records that are to be kept of a request: those of its new messages
abbrev pub batch_of : List Message → SyncRequest → List Record
batch_of ms q = map record_of (new_in ms q.messages)

-- what is kept then: an accepted request's new messages are added to its group, and nothing is of any other
abbrev pub kept_after : Verdict → Contents → Contents
kept_after Ends k = k
kept_after (Refuses refusal) k = k
kept_after (Accepts ms q) k = appended k q.group (batch_of ms q)

-- one connection: all bytes that it has, all that were written to it, what was decided, and which calls failed: one of the keeper,
-- one that read or wrote, the one that closed
pub record Visit : Type 0 where
  pub came : List ℕ
  pub wrote : List ℕ
  pub verdict : Verdict
  pub keeper_failed : Bool
  pub door_failed : Bool
  pub close_failed : Bool

-- how it ends
pub data IsServed (token : Text) (Finds : SyncRequest → Found → Type 0) (visit : Visit) : Served → Type 0 where
  -- the whole reply was written
  answered : (status : ℕ) → Means token Finds visit.came visit.keeper_failed visit.verdict → HasStatus visit.verdict status → visit.wrote ≡ reply_of visit.verdict
      → visit.door_failed ≡ false → IsServed token Finds visit (served.Answered status)
  -- its bytes ended before a request was whole
  ended : visit.verdict ≡ Ends → Decides token Finds visit.came Ends → visit.wrote ≡ [] → visit.keeper_failed ≡ false → visit.door_failed ≡ false
      → IsServed token Finds visit served.Cut
  -- a read failed before anything was decided
  unread : visit.verdict ≡ Ends → (front back : List ℕ) → visit.came ≡ front ++ back → IsUndecided token front → visit.wrote ≡ []
      → visit.keeper_failed ≡ false → visit.door_failed ≡ true → IsServed token Finds visit served.Cut
  -- a write failed before the whole reply was written
  unwritten : Means token Finds visit.came visit.keeper_failed visit.verdict → (rest : List ℕ) → reply_of visit.verdict ≡ visit.wrote ++ rest → rest ≢ []
      → visit.door_failed ≡ true → IsServed token Finds visit served.Cut
