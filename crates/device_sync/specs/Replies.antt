-- What the bytes are judged as that come back from a server.
use Rattle.std.specs.Prelude.{◌≡◌, ◌≢◌, ℕ, ◌+◌, ◌-◌, ◌<◌, ◌≤◌, List, [], length, map, Bool, true, not, ◌||◌, Option, None, Some, codes, if◌then◌else◌}
use Rattle.std.specs.List.{list_all}
use Rattle.httparse.specs.Grammar.{ResponseHead, ReadsResponse, status_code}
use Rattle.httparse.specs.Spans.{name_and_value}
use Rattle.field_merge.specs.declared.message.Message.{Message}
use Rattle.minute_trie.specs.declared.read.TrieFault.{TrieFault}
use Rattle.minute_trie.specs.Held.{Held}
use Rattle.minute_trie.specs.Faults.{fault_of_text, map_of_text}
use Rattle.sync_wire.specs.declared.fault.WireFault.{WireFault}
use Rattle.sync_wire.specs.declared.fault.WireFault.TheVariants.{Truncated, BadTag, LongVarint, NotUtf8, BadStamp, BadMessage, NoMemory}
use Rattle.sync_wire.specs.declared.response.SyncResponse.{SyncResponse}
use Rattle.sync_wire.specs.Wire.{IsResponse, IsResponseFault}
use Rattle.sync_server.specs.Heads.{Pair, has_name, tells}

-- a reply may have so many bytes, head and body
abbrev pub most_bytes : ℕ
most_bytes = 268_435_456

-- a field by its name and its value: where it is a Content-Length, in letters of any case, its value writes this number
abbrev pub fits_length : ℕ → Pair → Bool
fits_length n field = not (has_name (codes "Content-Length") field) || tells n field.1

-- the bytes are a head with this status, of at most 64 fields, each Content-Length among which is that of the body, and then the body
pub record IsReply (bytes : List ℕ) (status : ℕ) (body : List ℕ) : Type 0 where
  pub head : ResponseHead
  pub reads : ReadsResponse bytes head body
  pub few : length head.fields ≤ 64
  pub sized : list_all (fits_length (length body)) (map name_and_value head.fields) ≡ true
  pub status_is : status ≡ status_code head

-- what a reply is judged as: an answer, by its messages and its trie; a refusal, by its status; or bad, at a place
pub data Got : Type 0 where
  answer : List Message → Held → Got
  refusal : ℕ → Got
  bad : ℕ → Got

-- the messages of what it was judged as
abbrev pub messages_of : Got → List Message
messages_of (answer ms f) = ms
messages_of (refusal status) = []
messages_of (bad at) = []

-- the place of a fault in a body; a want of memory has none
abbrev pub place_of : WireFault → Option ℕ
place_of (Truncated at) = Some at
place_of (BadTag at) = Some at
place_of (LongVarint at) = Some at
place_of (NotUtf8 at) = Some at
place_of (BadStamp at) = Some at
place_of (BadMessage at) = Some at
place_of NoMemory = None

-- an answer whose trie has this fault or none, at the end of so many bytes
abbrev pub with_trie : ℕ → SyncResponse → Option TrieFault → Got
with_trie whole a None = answer a.messages (map_of_text a.merkle)
with_trie whole a (Some fault) = bad whole

-- the answer, where no envelope is encrypted and the trie can be read; else the reply is bad at its end
abbrev pub meant : ℕ → SyncResponse → Got
meant whole a = if a.encrypted then bad whole else with_trie whole a (fault_of_text a.merkle)

-- So a reply is judged, and the first of these that holds counts: it has too many bytes; it is no head and body; its status is
-- not 200; its body has a fault; and else by what the body says.
pub data IsJudged (bytes : List ℕ) (got : Got) : Type 0 where
  too_long : most_bytes < length bytes → got ≡ bad most_bytes → IsJudged bytes got
  no_reply : length bytes ≤ most_bytes → ((status : ℕ) (body : List ℕ) → IsReply bytes status body → ⊥) → got ≡ bad 0 → IsJudged bytes got
  refuses : length bytes ≤ most_bytes → (status : ℕ) (body : List ℕ) → IsReply bytes status body → status ≢ 200 → got ≡ refusal status → IsJudged bytes got
  faulty : length bytes ≤ most_bytes → (body : List ℕ) → IsReply bytes 200 body → (fault : WireFault) → IsResponseFault body fault
      → (place : ℕ) → place_of fault ≡ Some place → got ≡ bad (length bytes - length body + place) → IsJudged bytes got
  says : length bytes ≤ most_bytes → (body : List ℕ) → IsReply bytes 200 body → (a : SyncResponse) → IsResponse body a → got ≡ meant (length bytes) a → IsJudged bytes got
