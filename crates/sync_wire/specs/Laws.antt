-- What the laws say.
use Rattle.std.specs.Prelude.{◌≡◌, ◌≢◌, ◌↔◌, ◌⊎◌, ℕ, ◌^◌, ◌<◌, ◌≤◌, All, List, [], ◌∷◌, ◌++◌, length, nat_lt, false, Result, Ok, Err, IsUtf8}
use Rattle.std.specs.List.{flat_map, AllByRecursion}
use Rattle.field_values.specs.Value.{value_text}
use Rattle.hybrid_clock.specs.declared.stamp.Stamp.{Stamp}
use Rattle.hybrid_clock.specs.Stamp.{IsStamp}
use Rattle.field_merge.specs.declared.message.Message.{Message}
use Rattle.field_merge.specs.Messages.{IsMessage, AreMessages}
use Rattle.sync_wire.specs.declared.fault.WireFault.{WireFault}
use Rattle.sync_wire.specs.declared.layout.Layout.TheVariants as layouts
use Rattle.sync_wire.specs.declared.request.SyncRequest.{SyncRequest}
use Rattle.sync_wire.specs.declared.response.SyncResponse.{SyncResponse}
use Rattle.sync_wire.specs.Fields.{Number, Bytes, Tagged}
use Rattle.sync_wire.specs.Meaning.{text}
use Rattle.sync_wire.specs.Spelling.{IsNumber, FirstFault, Means}
use Rattle.sync_wire.specs.Envelope.{Written, content_check, content_of, content_at, envelope_check, outline_of, outline_at}
use Rattle.sync_wire.specs.Wire.{IsRequest, IsRequestFault, IsResponse, IsResponseFault, IsMessageContent, IsContentFault}
use Rattle.sync_wire.specs.Canon.{number_bytes, text_field, content_spelled, Parts, envelope_field, content_bytes, request_bytes, response_bytes}

-- the texts of the message are UTF-8, as those of each message in a program are
pub record HasTexts (m : Message) : Type 0 where
  pub dataset : IsUtf8 m.field.dataset
  pub row : IsUtf8 m.field.row
  pub column : IsUtf8 m.field.column
  pub value : IsUtf8 (value_text m.value)

-- the texts of the request are UTF-8
pub record RequestTexts (x : SyncRequest) : Type 0 where
  pub messages : AllByRecursion HasTexts x.messages
  pub file : IsUtf8 x.file
  pub group : IsUtf8 x.group
  pub since : IsUtf8 x.since

-- the texts of the reply are UTF-8
pub record ResponseTexts (x : SyncResponse) : Type 0 where
  pub messages : AllByRecursion HasTexts x.messages
  pub merkle : IsUtf8 x.merkle

-- ---- bytes mean one thing, or have one first fault

pub record IsEither {X : Type 0} (Read : X → Type 0) (Fault : WireFault → Type 0) : Type 0 where
  pub one : ((x : X) × Read x) ⊎ ((f : WireFault) × Fault f)
  pub not_both : (x : X) (f : WireFault) → Read x → Fault f → ⊥
  pub one_meaning : (x y : X) → Read x → Read y → x ≡ y
  pub one_fault : (f g : WireFault) → Fault f → Fault g → f ≡ g

pub record BytesAreRead : Type 0 where
  pub requests : (bytes : List ℕ) → IsEither (IsRequest bytes) (IsRequestFault bytes)
  pub replies : (bytes : List ℕ) → IsEither (IsResponse bytes) (IsResponseFault bytes)
  pub contents : (stamp : Stamp) (bytes : List ℕ) → IsEither (IsMessageContent stamp bytes) (IsContentFault stamp bytes)

-- ---- what an envelope and its content are read as, is what their fields mean, or their first fault

pub record ReadsAs {X : Type 0} (Read : X → Type 0) (Fault : WireFault → Type 0) (reading : Result X WireFault) : Type 0 where
  pub ok : (x : X) → (reading ≡ Ok x) ↔ Read x
  pub err : (f : WireFault) → (reading ≡ Err f) ↔ Fault f

-- also inside a body, whose places are told
pub record EnvelopesAreRead : Type 0 where
  pub fields : (end : ℕ) (bytes : List ℕ) → ReadsAs (Means envelope_check layouts.Envelope outline_of end bytes) (FirstFault envelope_check layouts.Envelope end bytes) (outline_at end bytes)
  pub contents : (end : ℕ) (bytes : List ℕ) → ReadsAs (Means content_check layouts.Content content_of end bytes) (FirstFault content_check layouts.Content end bytes) (content_at end bytes)

-- ---- what bytes mean has valid messages

pub record MeaningsAreValid : Type 0 where
  pub requests : (bytes : List ℕ) (x : SyncRequest) → IsRequest bytes x → AreMessages x.messages
  pub replies : (bytes : List ℕ) (x : SyncResponse) → IsResponse bytes x → AreMessages x.messages
  pub contents : (stamp : Stamp) (bytes : List ℕ) (m : Message) → IsStamp stamp → IsMessageContent stamp bytes m → IsMessage m

-- ---- what is written reads back

pub record WrittenReadBack : Type 0 where
  pub requests : (x : SyncRequest) → x.encrypted ≡ false → AreMessages x.messages → RequestTexts x → length (request_bytes x) < 2 ^ 64 → IsRequest (request_bytes x) x
  pub replies : (x : SyncResponse) → x.encrypted ≡ false → AreMessages x.messages → ResponseTexts x → length (response_bytes x) < 2 ^ 64 → IsResponse (response_bytes x) x
  pub contents : (m : Message) → IsMessage m → HasTexts m → length (content_bytes m) < 2 ^ 64 → IsMessageContent m.stamp (content_bytes m) m

-- ---- what is read of the one spelling is written so again

-- Envelopes, file, group and since, in this order, with no other field. Each envelope has a timestamp and a content, and that
-- dataset, row, column and value. Each tag and length is in the fewest bytes, and a text that is empty is left out.
pub record IsPlainRequest (bytes : List ℕ) : Type 0 where
  pub envelopes : List Parts
  pub file : List ℕ
  pub group : List ℕ
  pub since : List ℕ
  pub spelled : bytes ≡ flat_map envelope_field envelopes ++ (text_field 2 file ++ (text_field 3 group ++ text_field 6 since))

-- the same of a reply: envelopes, and then the trie
pub record IsPlainResponse (bytes : List ℕ) : Type 0 where
  pub envelopes : List Parts
  pub merkle : List ℕ
  pub spelled : bytes ≡ flat_map envelope_field envelopes ++ text_field 2 merkle

-- the same of a content
pub record IsPlainContent (bytes : List ℕ) : Type 0 where
  pub content : Written
  pub spelled : bytes ≡ content_spelled content

pub record PlainWritesBack : Type 0 where
  pub requests : (bytes : List ℕ) (x : SyncRequest) → IsPlainRequest bytes → length bytes < 2 ^ 64 → IsRequest bytes x → (x.encrypted ≡ false) × (request_bytes x ≡ bytes)
  pub replies : (bytes : List ℕ) (x : SyncResponse) → IsPlainResponse bytes → length bytes < 2 ^ 64 → IsResponse bytes x → (x.encrypted ≡ false) × (response_bytes x ≡ bytes)
  pub contents : (stamp : Stamp) (bytes : List ℕ) (m : Message) → IsPlainContent bytes → length bytes < 2 ^ 64 → IsMessageContent stamp bytes m → (m.stamp ≡ stamp) × (content_bytes m ≡ bytes)

-- ---- numbers are written in the fewest bytes

pub record NumbersAreShort : Type 0 where
  -- what is written spells the number
  pub spelled : (n : ℕ) → n < 2 ^ 64 → IsNumber (number_bytes n) n
  -- nothing shorter does
  pub fewest : (text : List ℕ) (n : ℕ) → All (λ b. b < 256) text → IsNumber text n → length (number_bytes n) ≤ length text
  -- and nothing else of that length
  pub one : (text : List ℕ) (n : ℕ) → All (λ b. b < 256) text → IsNumber text n → length text ≡ length (number_bytes n) → text ≡ number_bytes n

-- ---- of a field that may stand once the last counts

-- no field of them has the number
abbrev pub HasNone : ℕ → List Tagged → Type 0
HasNone n fields = AllByRecursion (λ t. t.number ≢ n) fields

pub record LastOnesCount : Type 0 where
  -- a text, or none where no field has its number
  pub texts : (n place : ℕ) (bytes : List ℕ) (before after : List Tagged) → HasNone n after → text n (before ++ record { number = n; payload = Bytes place bytes } ∷ after) ≡ bytes
  pub no_text : (n : ℕ) (fields : List Tagged) → HasNone n fields → text n fields ≡ []
  -- whether an envelope is encrypted: its last number is not 0
  pub flags : (k : ℕ) (before after : List Tagged) → HasNone 2 after → (outline_of (before ++ record { number = 2; payload = Number k } ∷ after)).encrypted ≡ nat_lt 0 k
  pub no_flag : (fields : List Tagged) → HasNone 2 fields → (outline_of fields).encrypted ≡ false
  -- the content of an envelope, with the place where it ends
  pub contents : (place : ℕ) (bytes : List ℕ) (before after : List Tagged) → HasNone 3 after → (outline_of (before ++ record { number = 3; payload = Bytes place bytes } ∷ after)).content ≡ (place, bytes)
  pub no_content : (fields : List Tagged) → HasNone 3 fields → (outline_of fields).content ≡ (0, [])
