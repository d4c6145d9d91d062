-- What the envelopes of a request and of a reply make of it.
use Rattle.std.specs.Prelude.{◌≡◌, ◌≢◌, ◌-◌, ℕ, List, [], ◌∷◌, ◌++◌, length, Bool, true, false, None, Some, Ok}
use Rattle.hybrid_clock.specs.declared.stamp.Stamp.{Stamp}
use Rattle.hybrid_clock.specs.Reading.{read_stamp}
use Rattle.field_merge.specs.declared.message.Message.{Message}
use Rattle.sync_wire.specs.Fields.{Bytes, Tagged}
use Rattle.sync_wire.specs.Envelope.{Written, Outline, content_at, outline_at, message_from, envelope_at}
use Rattle.sync_wire.specs.Wire.{request_of, response_of}

-- the field of an envelope, whose bytes end at this place
abbrev pub envelope_of : ℕ → List ℕ → Tagged
envelope_of end bytes = record { number = 1; payload = Bytes end bytes }

-- what each field makes of the messages of the whole, and of whether it is encrypted
pub record CountsEnvelopes (messages : List Tagged → List Message) (encrypted : List Tagged → Bool) : Type 0 where
  -- without fields there are none
  pub no_messages : messages [] ≡ []
  pub plain : encrypted [] ≡ false
  -- the message of an envelope stands in its place
  pub has_message : (before after : List Tagged) (end : ℕ) (bytes : List ℕ) (m : Message) → envelope_at end bytes ≡ Ok (Some m)
      → (messages (before ++ envelope_of end bytes ∷ after) ≡ messages before ++ m ∷ messages after) × (encrypted (before ++ envelope_of end bytes ∷ after) ≡ encrypted (before ++ after))
  -- with an encrypted one, which has none, the whole is encrypted
  pub is_sealed : (before after : List Tagged) (end : ℕ) (bytes : List ℕ) → envelope_at end bytes ≡ Ok None
      → (messages (before ++ envelope_of end bytes ∷ after) ≡ messages (before ++ after)) × (encrypted (before ++ envelope_of end bytes ∷ after) ≡ true)
  -- a field of another number changes neither
  pub others : (before after : List Tagged) (t : Tagged) → t.number ≢ 1 → (messages (before ++ t ∷ after) ≡ messages (before ++ after)) × (encrypted (before ++ t ∷ after) ≡ encrypted (before ++ after))

pub record EnvelopesCount : Type 0 where
  -- an envelope that says that it is encrypted, under a timestamp, has no message
  pub sealed : (end : ℕ) (bytes : List ℕ) (o : Outline) (s : Stamp) → outline_at end bytes ≡ Ok o → o.encrypted ≡ true → read_stamp o.stamp ≡ Ok s → envelope_at end bytes ≡ Ok None
  -- another one has that of its timestamp and its content
  pub opened : (end : ℕ) (bytes : List ℕ) (o : Outline) (w : Written) (s : Stamp) (m : Message) → outline_at end bytes ≡ Ok o → o.encrypted ≡ false → content_at o.content.0 o.content.1 ≡ Ok w
      → read_stamp o.stamp ≡ Ok s → message_from (end - length bytes) s w ≡ Ok m → envelope_at end bytes ≡ Ok (Some m)
  pub requests : CountsEnvelopes (λ fields. (request_of fields).messages) (λ fields. (request_of fields).encrypted)
  pub replies : CountsEnvelopes (λ fields. (response_of fields).messages) (λ fields. (response_of fields).encrypted)
