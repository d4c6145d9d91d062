-- The one spelling that is written.
use Rattle.std.specs.Prelude.{ℕ, zero, suc, ◌+◌, ◌*◌, ◌/◌, ◌%◌, List, [], ◌∷◌, ◌++◌, length, nat_lt, if◌then◌else◌}
use Rattle.std.specs.List.{flat_map}
use Rattle.field_values.specs.Value.{value_text}
use Rattle.hybrid_clock.specs.Stamp.{stamp_text}
use Rattle.field_merge.specs.declared.message.Message.{Message}
use Rattle.sync_wire.specs.declared.request.SyncRequest.{SyncRequest}
use Rattle.sync_wire.specs.declared.response.SyncResponse.{SyncResponse}
use Rattle.sync_wire.specs.Envelope.{Written}

-- a number in the fewest bytes, where one byte and so many more suffice
unfoldable pub number_within : ℕ → ℕ → List ℕ
number_within zero n = n ∷ []
number_within (suc k) n = if nat_lt n 128 then n ∷ [] else ((n % 128 + 128) ∷ number_within k (n / 128))

-- a number of 64 bits in the fewest bytes
unfoldable pub number_bytes : ℕ → List ℕ
number_bytes n = number_within 9 n

-- a field that holds bytes: its tag, their length, and the bytes
unfoldable pub bytes_field : ℕ → List ℕ → List ℕ
bytes_field number bytes = number_bytes (8 * number + 2) ++ (number_bytes (length bytes) ++ bytes)

-- a field that holds a text; an empty one is left out
abbrev pub text_field : ℕ → List ℕ → List ℕ
text_field number [] = []
text_field number (b ∷ bytes) = bytes_field number (b ∷ bytes)

-- a content that says this
abbrev pub content_spelled : Written → List ℕ
content_spelled w = text_field 1 w.dataset ++ (text_field 2 w.row ++ (text_field 3 w.column ++ text_field 4 w.value))

-- the timestamp's text and the content of an envelope
pub record Parts : Type 0 where
  pub stamp : List ℕ
  pub content : Written

-- an envelope with these
abbrev pub envelope_spelled : Parts → List ℕ
envelope_spelled p = text_field 1 p.stamp ++ bytes_field 3 (content_spelled p.content)

-- an envelope as a field of a request or of a reply
abbrev pub envelope_field : Parts → List ℕ
envelope_field p = bytes_field 1 (envelope_spelled p)

-- what the content of a message says
abbrev pub written_of : Message → Written
written_of m = record { dataset = m.field.dataset; row = m.field.row; column = m.field.column; value = value_text m.value }

-- the parts of a message's envelope
abbrev pub parts_of : Message → Parts
parts_of m = record { stamp = stamp_text m.stamp; content = written_of m }

-- the content of a message
abbrev pub content_bytes : Message → List ℕ
content_bytes m = content_spelled (written_of m)

-- the field of a message's envelope
abbrev pub message_field : Message → List ℕ
message_field m = envelope_field (parts_of m)

-- a request that is not encrypted
abbrev pub request_bytes : SyncRequest → List ℕ
request_bytes x = flat_map message_field x.messages ++ (text_field 2 x.file ++ (text_field 3 x.group ++ text_field 6 x.since))

-- a reply that is not encrypted
abbrev pub response_bytes : SyncResponse → List ℕ
response_bytes x = flat_map message_field x.messages ++ text_field 2 x.merkle
