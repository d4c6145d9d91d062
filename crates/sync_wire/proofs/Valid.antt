-- What bytes mean has valid messages.
use Rattle.std.proofs.Common.{◌≡◌, ℕ, ◌-◌, List, [], ◌∷◌, length, Bool, true, false, cond, Option, Some, None, Result, Ok, Err, refl, sym, ap, subst, ◌∙◌}
use Rattle.std.specs.List.{filter_map, cons_option}
use Rattle.field_values.specs.Names.{field_of, names_fault}
use Rattle.field_values.proofs.Values.{texts_write_back_lem}
use Rattle.field_values.proofs.FaultLemmas.{faults_are_told_lem}
use Rattle.hybrid_clock.specs.declared.stamp.Stamp.{Stamp}
use Rattle.hybrid_clock.specs.declared.stamp.StampFault.{StampFault}
use Rattle.hybrid_clock.specs.Stamp.{IsStamp}
use Rattle.hybrid_clock.specs.Reading.{read_stamp}
use Rattle.hybrid_clock.proofs.Texts.{read_valid}
use Rattle.field_merge.specs.declared.message.Message.{Message}
use Rattle.field_merge.specs.Messages.{IsMessage, AreMessages, message_of}
use Rattle.sync_wire.specs.declared.fault.WireFault.{WireFault}
use Rattle.sync_wire.specs.declared.fault.WireFault.TheVariants.{BadMessage}
use Rattle.sync_wire.specs.declared.request.SyncRequest.{SyncRequest}
use Rattle.sync_wire.specs.declared.response.SyncResponse.{SyncResponse}
use Rattle.sync_wire.specs.Reading.{◌>>=◌}
use Rattle.sync_wire.specs.Fields.{Tagged}
use Rattle.sync_wire.specs.Meaning.{bytes_in}
use Rattle.sync_wire.specs.Envelope.{Written, content_at, message_from, Outline, outline_at, sealed, opened, message_in, envelope_at}
use Rattle.sync_wire.specs.Wire.{opened_message, message_in_field, IsRequest, IsResponse, IsMessageContent}
use Rattle.sync_wire.proofs.Envelopes.{unless_told}

-- ---- a message

from_valid : (start : ℕ) (stamp : Stamp) (w : Written) (m : Message) → IsStamp stamp → message_from start stamp w ≡ Ok m → IsMessage m
from_valid start stamp w m of e =
    let field = field_of w.dataset w.row w.column in
    let told = unless_told (names_fault field) (BadMessage start) (message_of stamp field w.value) m e in
    subst IsMessage (sym told.1) (record { stamp = of; field = (faults_are_told_lem.none field).0 told.0; value = (texts_write_back_lem w.value).0 })

pub content_valid : (stamp : Stamp) (bytes : List ℕ) (m : Message) → IsStamp stamp → IsMessageContent stamp bytes m → IsMessage m
content_valid stamp bytes m of h = from_valid 0 stamp h.0 m of h.2

-- ---- an envelope

opened_valid : (start : ℕ) (r : Result Stamp StampFault) (text : List ℕ) (w : Written) (m : Message) → read_stamp text ≡ r → opened start r w ≡ Ok (Some m) → IsMessage m
opened_valid start (Err found) text w m is e = absurd (cc)
opened_valid start (Ok stamp) text w m is e = by (message_from start stamp w) refl e
  where
    by : (made : Result Message WireFault) → message_from start stamp w ≡ made → (made >>= λ n. Ok (Some n)) ≡ Ok (Some m) → IsMessage m
    by (Ok n) d h = let same : n ≡ m = cc in from_valid start stamp w m (read_valid text stamp is) (d ∙ ap Ok same)
    by (Err f) d h = absurd (cc)

within_valid : (start : ℕ) (text : List ℕ) (m : Message) (c : Result Written WireFault) → (c >>= λ w. opened start (read_stamp text) w) ≡ Ok (Some m) → IsMessage m
within_valid start text m (Ok w) e = opened_valid start (read_stamp text) text w m refl e
within_valid start text m (Err f) e = absurd (cc)

-- an encrypted one has none
none_sealed : (start : ℕ) (r : Result Stamp StampFault) (m : Message) → sealed start r ≡ Ok (Some m) → IsMessage m
none_sealed start (Ok stamp) m e = absurd (cc)
none_sealed start (Err found) m e = absurd (cc)

in_valid : (start : ℕ) (o : Outline) (m : Message) → message_in start o ≡ Ok (Some m) → IsMessage m
unfolding message_in
in_valid start o m e = by o.encrypted e
  where
    by : (b : Bool) → cond b (sealed start (read_stamp o.stamp)) (content_at o.content.0 o.content.1 >>= λ w. opened start (read_stamp o.stamp) w) ≡ Ok (Some m) → IsMessage m
    by true h = none_sealed start (read_stamp o.stamp) m h
    by false h = within_valid start o.stamp m (content_at o.content.0 o.content.1) h

outlined_valid : (start : ℕ) (r : Result Outline WireFault) (m : Message) → (r >>= message_in start) ≡ Ok (Some m) → IsMessage m
outlined_valid start (Ok o) m e = in_valid start o m e
outlined_valid start (Err f) m e = absurd (cc)

envelope_valid : (end : ℕ) (bytes : List ℕ) (m : Message) → envelope_at end bytes ≡ Ok (Some m) → IsMessage m
unfolding envelope_at
envelope_valid end bytes m e = outlined_valid (end - length bytes) (outline_at end bytes) m e

-- ---- all envelopes

opened_some : (r : Result (Option Message) WireFault) (m : Message) → opened_message r ≡ Some m → r ≡ Ok (Some m)
opened_some (Ok o) m e = ap Ok e
opened_some (Err f) m e = absurd (cc)

field_valid : (t : Tagged) (m : Message) → message_in_field t ≡ Some m → IsMessage m
field_valid t m e = by (bytes_in 1 t) e
  where
    by : (o : Option (ℕ × List ℕ)) → elim o [ Some p ↦ opened_message (envelope_at p.0 p.1) | None ↦ None ] ≡ Some m → IsMessage m
    by (Some p) h = envelope_valid p.0 p.1 m (opened_some (envelope_at p.0 p.1) m h)
    by None h = absurd (cc)

one_more : (t : Tagged) (o : Option Message) (ms : List Message) → message_in_field t ≡ o → AreMessages ms → AreMessages (cons_option o ms)
one_more t (Some m) ms e all = (field_valid t m e, all)
one_more t None ms e all = all

all_valid : (ts : List Tagged) → AreMessages (filter_map message_in_field ts)
all_valid [] = tt
all_valid (t ∷ ts) = one_more t (message_in_field t) (filter_map message_in_field ts) refl (all_valid ts)

pub request_valid : (bytes : List ℕ) (x : SyncRequest) → IsRequest bytes x → AreMessages x.messages
request_valid bytes x h = subst (λ (y : SyncRequest). AreMessages y.messages) (sym h.said) (all_valid h.fields)

pub response_valid : (bytes : List ℕ) (x : SyncResponse) → IsResponse bytes x → AreMessages x.messages
response_valid bytes x h = subst (λ (y : SyncResponse). AreMessages y.messages) (sym h.said) (all_valid h.fields)
