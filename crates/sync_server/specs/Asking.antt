-- What comes by a connection.
use Rattle.std.specs.Prelude.{◌≡◌, ◌⊎◌, ◌++◌, ◌<◌, ◌≤◌, ℕ, List, length, Bool, true, false, Option, Result, Ok, Err}
use Rattle.std.specs.Io.KnownBytes.{IsAtEnd}
use Rattle.budget_ports.specs.Contents.{Contents}
use Rattle.field_merge.specs.Messages.{AreMessages}
use Rattle.sync_wire.specs.declared.fault.WireFault.{WireFault}
use Rattle.sync_wire.specs.declared.fault.WireFault.TheVariants as wire
use Rattle.sync_wire.specs.declared.request.SyncRequest.{SyncRequest}
use Rattle.sync_wire.specs.Wire.{IsRequest, IsRequestFault}
use Rattle.sync_server.specs.declared.asking.Asked.{Asked}
use Rattle.sync_server.specs.declared.asking.Asked.TheVariants as asked
use Rattle.sync_server.specs.declared.asking.BodyEnd.{BodyEnd}
use Rattle.sync_server.specs.declared.asking.BodyEnd.TheVariants as ends
use Rattle.sync_server.specs.declared.refusal.Refusal.{Refusal}
use Rattle.sync_server.specs.declared.refusal.Refusal.TheVariants.{BadMessage, EncryptedMessage, SinceRequired, NoMemory}
use Rattle.sync_server.specs.Heads.{IsUndecided}
use Rattle.sync_server.specs.Serving.{Decides, Ends, Refuses, AsksKeeper}
use Rattle.sync_server.specs.Outside.{HasFound}

-- how reading up to so many bytes ended, with how many taken
abbrev pub IsBodyEnd : ℕ → ℕ → Option (List ℕ) → BodyEnd → Type 0
IsBodyEnd end taken left ends.Whole = end ≤ taken
IsBodyEnd end taken left ends.Ended = (taken < end) × IsAtEnd left
IsBodyEnd end taken left ends.Failed = taken < end
IsBodyEnd end taken left ends.NoMemory = Unit {0}

abbrev pub body_failed : BodyEnd → Bool
body_failed ends.Whole = false
body_failed ends.Ended = false
body_failed ends.Failed = true
body_failed ends.NoMemory = false

-- a request that is neither encrypted nor without a text to ask from, and whose messages are valid
pub record IsPlain (request : SyncRequest) : Type 0 where
  pub plain : request.encrypted ≡ false
  pub since : 0 < length request.since
  pub valid : AreMessages request.messages

-- what is told of what is wrong with a body
abbrev pub refusal_for : WireFault → Refusal
refusal_for (wire.Truncated at) = BadMessage
refusal_for (wire.BadTag at) = BadMessage
refusal_for (wire.LongVarint at) = BadMessage
refusal_for (wire.NotUtf8 at) = BadMessage
refusal_for (wire.BadStamp at) = BadMessage
refusal_for (wire.BadMessage at) = BadMessage
refusal_for wire.NoMemory = NoMemory

-- why a whole body is refused
pub data RefusesBody (body : List ℕ) (refusal : Refusal) : Type 0 where
  out_of_memory : refusal ≡ NoMemory → RefusesBody body refusal
  no_meaning : (fault : WireFault) → IsRequestFault body fault → refusal ≡ BadMessage → RefusesBody body refusal
  encrypted : (q : SyncRequest) → IsRequest body q → q.encrypted ≡ true → refusal ≡ EncryptedMessage → RefusesBody body refusal
  without_since : (q : SyncRequest) → IsRequest body q → q.encrypted ≡ false → length q.since ≡ 0 → refusal ≡ SinceRequired → RefusesBody body refusal

abbrev pub IsReadAs : List ℕ → Result SyncRequest Refusal → Type 0
IsReadAs body (Ok request) = IsRequest body request × IsPlain request
IsReadAs body (Err refusal) = RefusesBody body refusal

-- The bytes of a connection ask for this. What is refused is so whatever the keeper has.
abbrev pub IsAsked : List ℕ → List ℕ → Asked → Type 0
IsAsked token came (asked.Request request) = (asks : AsksKeeper token came) × (asks.request ≡ request) × AreMessages request.messages
IsAsked token came (asked.Refused refusal) = ((k : Contents) → Decides token (HasFound k) came (Refuses refusal)) ⊎ (refusal ≡ NoMemory)
IsAsked token came asked.Ended = (k : Contents) → Decides token (HasFound k) came Ends
IsAsked token came asked.Failed = (front : List ℕ) × (back : List ℕ) × (came ≡ front ++ back) × IsUndecided token front

abbrev pub asking_failed : Asked → Bool
asking_failed (asked.Request request) = false
asking_failed (asked.Refused refusal) = false
asking_failed asked.Ended = false
asking_failed asked.Failed = true
