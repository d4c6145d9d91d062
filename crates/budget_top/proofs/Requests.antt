-- The messages of a request that is read are valid.
use Rattle.std.proofs.Common.{◌≡◌, ℕ, ◌-◌, Bool, true, false, cond, List, [], ◌∷◌, length, Option, Some, None, Result, Ok, Err, refl, sym, subst}
use Rattle.std.specs.List.{filter_map, cons_option}
use Rattle.field_values.specs.declared.name.NameFault.{NameFault}
use Rattle.field_values.specs.Names.{field_of, names_fault}
use Rattle.field_values.proofs.Values.{texts_write_back_lem}
use Rattle.field_values.proofs.NameLemmas.{names_without_fault}
use Rattle.hybrid_clock.specs.declared.stamp.Stamp.{Stamp}
use Rattle.hybrid_clock.specs.declared.stamp.StampFault.{StampFault}
use Rattle.hybrid_clock.specs.Reading.{read_stamp}
use Rattle.hybrid_clock.proofs.Texts.{read_valid}
use Rattle.field_merge.specs.declared.message.Message.{Message}
use Rattle.field_merge.specs.Messages.{IsMessage, AreMessages, message_of}
use Rattle.sync_wire.specs.declared.fault.WireFault.{WireFault}
use Rattle.sync_wire.specs.declared.fault.WireFault.TheVariants.{BadMessage}
use Rattle.sync_wire.specs.declared.request.SyncRequest.{SyncRequest}
use Rattle.sync_wire.specs.Reading.{◌>>=◌}
use Rattle.sync_wire.specs.Fields.{Tagged}
use Rattle.sync_wire.specs.Meaning.{bytes_in}
use Rattle.sync_wire.specs.Envelope.{Written, content_at, unless, message_from, Outline, outline_at, sealed, opened, message_in, envelope_at}
use Rattle.sync_wire.specs.Wire.{opened_message, message_in_field, IsRequest}

told_of : (o : Option NameFault) (f : WireFault) (made m : Message) → unless o f made ≡ Ok m → (o ≡ None) × (m ≡ made)
told_of None f made m e = (refl, cc)
told_of (Some found) f made m e = absurd cc

from_valid : (start : ℕ) (text : List ℕ) (stamp : Stamp) (w : Written) (m : Message) → read_stamp text ≡ Ok stamp → message_from start stamp w ≡ Ok m → IsMessage m
from_valid start text stamp w m s e =
    let field = field_of w.dataset w.row w.column in
    let t = told_of (names_fault field) (BadMessage start) (message_of stamp field w.value) m e in
    subst IsMessage (sym t.1) (record { stamp = read_valid text stamp s; field = names_without_fault field t.0; value = (texts_write_back_lem w.value).0 })

opened_valid : (start : ℕ) (text : List ℕ) (r : Result Stamp StampFault) (w : Written) (m : Message) → read_stamp text ≡ r → opened start r w ≡ Ok (Some m) → IsMessage m
opened_valid start text (Err f) w m s e = absurd cc
opened_valid start text (Ok stamp) w m s e = by (message_from start stamp w) refl e
  where
    by : (r : Result Message WireFault) → message_from start stamp w ≡ r → (r >>= λ n. Ok (Some n)) ≡ Ok (Some m) → IsMessage m
    by (Ok n) is k = let same : n ≡ m = cc in subst IsMessage same (from_valid start text stamp w n s is)
    by (Err f) is k = absurd cc

never_sealed : (start : ℕ) (r : Result Stamp StampFault) (m : Message) → sealed start r ≡ Ok (Some m) → ⊥
never_sealed start (Ok stamp) m e = cc
never_sealed start (Err f) m e = cc

inner_valid : (start : ℕ) (o : Outline) (m : Message) → message_in start o ≡ Ok (Some m) → IsMessage m
unfolding message_in
inner_valid start o m e = by o.encrypted (content_at o.content.0 o.content.1) e
  where
    by : (b : Bool) (c : Result Written WireFault) → cond b (sealed start (read_stamp o.stamp)) (c >>= λ w. opened start (read_stamp o.stamp) w) ≡ Ok (Some m) → IsMessage m
    by true c k = absurd (never_sealed start (read_stamp o.stamp) m k)
    by false (Ok w) k = opened_valid start o.stamp (read_stamp o.stamp) w m refl k
    by false (Err f) k = absurd cc

envelope_valid : (end : ℕ) (bytes : List ℕ) (m : Message) → envelope_at end bytes ≡ Ok (Some m) → IsMessage m
unfolding envelope_at
envelope_valid end bytes m e = by (outline_at end bytes) e
  where
    by : (r : Result Outline WireFault) → (r >>= message_in (end - length bytes)) ≡ Ok (Some m) → IsMessage m
    by (Ok o) k = inner_valid (end - length bytes) o m k
    by (Err f) k = absurd cc

field_valid : (t : Tagged) (m : Message) → message_in_field t ≡ Some m → IsMessage m
field_valid t m e = by (bytes_in 1 t) e
  where
    of_read : (p : ℕ × List ℕ) (r : Result (Option Message) WireFault) → envelope_at p.0 p.1 ≡ r → opened_message r ≡ Some m → IsMessage m
    of_read p (Ok (Some n)) is k = let same : n ≡ m = cc in subst IsMessage same (envelope_valid p.0 p.1 n is)
    of_read p (Ok None) is k = absurd cc
    of_read p (Err f) is k = absurd cc

    by : (o : Option (ℕ × List ℕ)) → elim o [ Some p ↦ opened_message (envelope_at p.0 p.1) | None ↦ None ] ≡ Some m → IsMessage m
    by None k = absurd cc
    by (Some p) k = of_read p (envelope_at p.0 p.1) refl k

fields_valid : (ts : List Tagged) → AreMessages (filter_map message_in_field ts)
fields_valid [] = tt
fields_valid (t ∷ ts) = by (message_in_field t) refl (fields_valid ts)
  where
    by : (o : Option Message) → message_in_field t ≡ o → AreMessages (filter_map message_in_field ts) → AreMessages (cons_option o (filter_map message_in_field ts))
    by None is rest = rest
    by (Some m) is rest = (field_valid t m is, rest)

pub request_valid : (bytes : List ℕ) (q : SyncRequest) → IsRequest bytes q → AreMessages q.messages
request_valid bytes q h = subst (λ (x : SyncRequest). AreMessages x.messages) (sym h.said) (fields_valid h.fields)
