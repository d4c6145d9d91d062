-- What a device asks of a server.
use Rattle.std.specs.Prelude.{◌≡◌, ℕ, ◌-◌, List, ◌++◌, length, false, codes, is_ok, Option, None, Some, if◌then◌else◌}
use Rattle.std.specs.Fmt.{decimal}
use Rattle.hybrid_clock.specs.Moments.{moment_text}
use Rattle.hybrid_clock.specs.Reading.{read_stamp}
use Rattle.field_merge.specs.declared.message.Message.{Message}
use Rattle.field_merge.specs.Log.{messages_after}
use Rattle.sync_wire.specs.declared.request.SyncRequest.{SyncRequest}
use Rattle.sync_wire.specs.Wire.{IsRequest}
use Rattle.sync_wire.specs.Canon.{request_bytes}
use Rattle.device_sync.specs.declared.target.Target.{Target}

-- the request of a device that has the messages: it hands in those that are later than a text, and asks for such
abbrev pub request_of : Target → List ℕ → List Message → SyncRequest
request_of target since ms = record { messages = messages_after since ms; encrypted = false; file = target.file; group = target.group; since = since }

-- the head of a request with a token and a body of so many bytes
unfoldable pub head_text : List ℕ → ℕ → List ℕ
head_text token size =
    codes "POST /sync/sync HTTP/1.1\r\nHost: localhost\r\nContent-Type: application/actual-sync\r\nX-ACTUAL-TOKEN: " ++ (token
    ++ (codes "\r\nContent-Length: " ++ (decimal size ++ codes "\r\nConnection: close\r\n\r\n")))

-- the text of a request: head and body
unfoldable pub request_text : List ℕ → SyncRequest → List ℕ
request_text token q = head_text token (length (request_bytes q)) ++ request_bytes q

-- a text that was sent is that of a request, whose bytes mean it
pub record IsAsked (token : List ℕ) (q : SyncRequest) (sent : List ℕ) : Type 0 where
  pub text : sent ≡ request_text token q
  pub means : IsRequest (request_bytes q) q

-- from where a device asks first, at a reading of the wall clock: from the text of the last sync, where it is a timestamp's, else
-- from five minutes before
abbrev pub first_since : Option (List ℕ) → ℕ → List ℕ
first_since None reading = moment_text (reading - 300_000)
first_since (Some synced) reading = if is_ok (read_stamp synced) then synced else moment_text (reading - 300_000)
