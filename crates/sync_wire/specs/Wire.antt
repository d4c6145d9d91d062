-- What bytes mean: a request, a reply, the content of a message.
use Rattle.std.specs.Prelude.{◌≡◌, ℕ, List, length, Bool, true, false, ◌==◌, ◌||◌, Option, Some, None, Result, Ok, Err, ◌⊎◌, if◌then◌else◌}
use Rattle.std.specs.List.{filter_map, list_any}
use Rattle.hybrid_clock.specs.declared.stamp.Stamp.{Stamp}
use Rattle.field_merge.specs.declared.message.Message.{Message}
use Rattle.sync_wire.specs.declared.fault.WireFault.{WireFault}
use Rattle.sync_wire.specs.declared.layout.Layout.TheVariants as layouts
use Rattle.sync_wire.specs.declared.request.SyncRequest.{SyncRequest}
use Rattle.sync_wire.specs.declared.response.SyncResponse.{SyncResponse}
use Rattle.sync_wire.specs.Reading.{◌>>=◌, fault_of}
use Rattle.sync_wire.specs.Fields.{Tagged}
use Rattle.sync_wire.specs.Meaning.{steps, reading, bytes_in, text, text_fault, fault_within}
use Rattle.sync_wire.specs.Spelling.{FirstFault, Means}
use Rattle.sync_wire.specs.Envelope.{Written, content_check, content_of, content_at, message_from, envelope_at}

-- ---- the envelopes of a request and of a reply: number 1

abbrev pub envelope_fault : ℕ → List ℕ → Option WireFault
envelope_fault end bytes = fault_of (envelope_at end bytes)

abbrev pub opened_message : Result (Option Message) WireFault → Option Message
opened_message (Ok o) = o
opened_message (Err f) = None

abbrev pub is_closed : Result (Option Message) WireFault → Bool
is_closed (Ok (Some m)) = false
is_closed (Ok None) = true
is_closed (Err f) = false

-- the message of a field, where it has one
abbrev pub message_in_field : Tagged → Option Message
message_in_field t = elim (bytes_in 1 t) [ Some p ↦ opened_message (envelope_at p.0 p.1) | None ↦ None ]

-- it is an encrypted envelope
abbrev pub is_closed_field : Tagged → Bool
is_closed_field t = elim (bytes_in 1 t) [ Some p ↦ is_closed (envelope_at p.0 p.1) | None ↦ false ]

-- ---- a request: envelopes 1, file 2, group 3, key 5, since 6

abbrev pub request_check : Tagged → Option WireFault
request_check t =
    if t.number == 1 then fault_within envelope_fault t.payload
    else if t.number == 2 || t.number == 3 || t.number == 6 then fault_within text_fault t.payload
    else None

abbrev pub request_of : List Tagged → SyncRequest
request_of fields = record {
  messages = filter_map message_in_field fields;
  encrypted = list_any is_closed_field fields;
  file = text 2 fields;
  group = text 3 fields;
  since = text 6 fields;
}

unfoldable pub request_at : ℕ → List ℕ → Result SyncRequest WireFault
request_at end bytes = reading request_check request_of (steps layouts.Request end bytes)

-- the bytes mean the request
abbrev pub IsRequest : List ℕ → SyncRequest → Type 0
IsRequest bytes x = Means request_check layouts.Request request_of (length bytes) bytes x

-- the first fault of the bytes as a request
abbrev pub IsRequestFault : List ℕ → WireFault → Type 0
IsRequestFault bytes f = FirstFault request_check layouts.Request (length bytes) bytes f

-- the numbers of the fields whose bytes are kept
abbrev pub request_kept : ℕ → Bool
request_kept n = n == 1 || n == 2 || n == 3 || n == 6

-- ---- a reply: envelopes 1, trie 2

abbrev pub response_check : Tagged → Option WireFault
response_check t =
    if t.number == 1 then fault_within envelope_fault t.payload
    else if t.number == 2 then fault_within text_fault t.payload
    else None

abbrev pub response_of : List Tagged → SyncResponse
response_of fields = record {
  messages = filter_map message_in_field fields;
  encrypted = list_any is_closed_field fields;
  merkle = text 2 fields;
}

unfoldable pub response_at : ℕ → List ℕ → Result SyncResponse WireFault
response_at end bytes = reading response_check response_of (steps layouts.Response end bytes)

-- the bytes mean the reply
abbrev pub IsResponse : List ℕ → SyncResponse → Type 0
IsResponse bytes x = Means response_check layouts.Response response_of (length bytes) bytes x

-- the first fault of the bytes as a reply
abbrev pub IsResponseFault : List ℕ → WireFault → Type 0
IsResponseFault bytes f = FirstFault response_check layouts.Response (length bytes) bytes f

-- the numbers of the fields whose bytes are kept
abbrev pub response_kept : ℕ → Bool
response_kept n = n == 1 || n == 2

-- ---- the content of a message under a timestamp

unfoldable pub message_at : Stamp → List ℕ → Result Message WireFault
message_at stamp bytes = content_at (length bytes) bytes >>= message_from 0 stamp

-- what the fields say is w, and with the timestamp it makes the message
abbrev pub IsMessageContent : Stamp → List ℕ → Message → Type 0
IsMessageContent stamp bytes m = (w : Written) × Means content_check layouts.Content content_of (length bytes) bytes w × (message_from 0 stamp w ≡ Ok m)

-- the first fault of the fields, or else that of the names, told at the place 0
abbrev pub IsContentFault : Stamp → List ℕ → WireFault → Type 0
IsContentFault stamp bytes f =
    FirstFault content_check layouts.Content (length bytes) bytes f
    ⊎ ((w : Written) × Means content_check layouts.Content content_of (length bytes) bytes w × (message_from 0 stamp w ≡ Err f))
