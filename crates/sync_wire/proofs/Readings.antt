-- Bytes mean one thing, or have one first fault.
use Rattle.std.proofs.Common.{◌≡◌, ◌⊎◌, inl, inr, ℕ, List, length, Result, Ok, Err, refl, sym, ◌∙◌}
use Rattle.hybrid_clock.specs.declared.stamp.Stamp.{Stamp}
use Rattle.field_merge.specs.declared.message.Message.{Message}
use Rattle.sync_wire.specs.declared.fault.WireFault.{WireFault}
use Rattle.sync_wire.specs.declared.layout.Layout.TheVariants as layouts
use Rattle.sync_wire.specs.Reading.{◌>>=◌}
use Rattle.sync_wire.specs.Envelope.{Written, content_check, content_of, content_at, message_from, envelope_check, outline_of, outline_at}
use Rattle.sync_wire.specs.Spelling.{Means, FirstFault}
use Rattle.sync_wire.specs.Wire.{request_check, request_of, request_at, IsRequest, IsRequestFault, response_check, response_of, response_at, IsResponse, IsResponseFault, message_at, IsMessageContent, IsContentFault}
use Rattle.sync_wire.specs.Laws.{ReadsAs, IsEither}
use Rattle.sync_wire.proofs.Totals.{is_meant, is_read, is_fault, is_refused}

pub request_reads : (bytes : List ℕ) → ReadsAs (IsRequest bytes) (IsRequestFault bytes) (request_at (length bytes) bytes)
unfolding request_at
request_reads bytes = record {
  ok = λ x. (is_meant request_check layouts.Request request_of (length bytes) bytes x, is_read request_check layouts.Request request_of (length bytes) bytes x);
  err = λ f. (is_fault request_check layouts.Request request_of (length bytes) bytes f, is_refused request_check layouts.Request request_of (length bytes) bytes f);
}

pub response_reads : (bytes : List ℕ) → ReadsAs (IsResponse bytes) (IsResponseFault bytes) (response_at (length bytes) bytes)
unfolding response_at
response_reads bytes = record {
  ok = λ x. (is_meant response_check layouts.Response response_of (length bytes) bytes x, is_read response_check layouts.Response response_of (length bytes) bytes x);
  err = λ f. (is_fault response_check layouts.Response response_of (length bytes) bytes f, is_refused response_check layouts.Response response_of (length bytes) bytes f);
}

pub outline_reads : (end : ℕ) (bytes : List ℕ) → ReadsAs (Means envelope_check layouts.Envelope outline_of end bytes) (FirstFault envelope_check layouts.Envelope end bytes) (outline_at end bytes)
unfolding outline_at
outline_reads end bytes = record {
  ok = λ x. (is_meant envelope_check layouts.Envelope outline_of end bytes x, is_read envelope_check layouts.Envelope outline_of end bytes x);
  err = λ f. (is_fault envelope_check layouts.Envelope outline_of end bytes f, is_refused envelope_check layouts.Envelope outline_of end bytes f);
}

pub content_reads : (end : ℕ) (bytes : List ℕ) → ReadsAs (Means content_check layouts.Content content_of end bytes) (FirstFault content_check layouts.Content end bytes) (content_at end bytes)
unfolding content_at
content_reads end bytes = record {
  ok = λ x. (is_meant content_check layouts.Content content_of end bytes x, is_read content_check layouts.Content content_of end bytes x);
  err = λ f. (is_fault content_check layouts.Content content_of end bytes f, is_refused content_check layouts.Content content_of end bytes f);
}

-- ---- a content under a timestamp

message_ok : (stamp : Stamp) (bytes : List ℕ) (m : Message) (r : Result Written WireFault) → content_at (length bytes) bytes ≡ r → (r >>= message_from 0 stamp) ≡ Ok m → IsMessageContent stamp bytes m
message_ok stamp bytes m (Ok w) e h = (w, ((content_reads (length bytes) bytes).ok w).0 e, h)
message_ok stamp bytes m (Err f) e h = absurd cc

message_err : (stamp : Stamp) (bytes : List ℕ) (f : WireFault) (r : Result Written WireFault) → content_at (length bytes) bytes ≡ r → (r >>= message_from 0 stamp) ≡ Err f → IsContentFault stamp bytes f
message_err stamp bytes f (Ok w) e h = inr (w, ((content_reads (length bytes) bytes).ok w).0 e, h)
message_err stamp bytes f (Err g) e h = let same : content_at (length bytes) bytes ≡ Err f = cc in inl (((content_reads (length bytes) bytes).err f).0 same)

message_is : (stamp : Stamp) (bytes : List ℕ) (m : Message) → IsMessageContent stamp bytes m → message_at stamp bytes ≡ Ok m
unfolding message_at
message_is stamp bytes m h = let e = ((content_reads (length bytes) bytes).ok h.0).1 h.1 in rw (e, h.2) refl

message_is_not : (stamp : Stamp) (bytes : List ℕ) (f : WireFault) → IsContentFault stamp bytes f → message_at stamp bytes ≡ Err f
unfolding message_at
message_is_not stamp bytes f (inl h) = let e = ((content_reads (length bytes) bytes).err f).1 h in rw e refl
message_is_not stamp bytes f (inr h) = let e = ((content_reads (length bytes) bytes).ok h.0).1 h.1 in rw (e, h.2) refl

pub message_reads : (stamp : Stamp) (bytes : List ℕ) → ReadsAs (IsMessageContent stamp bytes) (IsContentFault stamp bytes) (message_at stamp bytes)
unfolding message_at
message_reads stamp bytes = record {
  ok = λ m. ((λ h. message_ok stamp bytes m (content_at (length bytes) bytes) refl h), message_is stamp bytes m);
  err = λ f. ((λ h. message_err stamp bytes f (content_at (length bytes) bytes) refl h), message_is_not stamp bytes f);
}

-- ---- one or the other

abbrev read_as : {X : Type 0} → X → Result X WireFault
read_as x = Ok x

same_read : {X : Type 0} (x y : X) → read_as x ≡ read_as y → x ≡ y
same_read x y e = cc

same_fault : {X : Type 0} (f g : WireFault) (r : Result X WireFault) → r ≡ Err f → r ≡ Err g → f ≡ g
same_fault f g r d e = cc

apart : {X : Type 0} (x : X) (f : WireFault) (r : Result X WireFault) → r ≡ Ok x → r ≡ Err f → ⊥
apart x f r d e = cc

one_of : {X : Type 0} (Read : X → Type 0) (Fault : WireFault → Type 0) (r q : Result X WireFault) → ReadsAs Read Fault r → r ≡ q → ((x : X) × Read x) ⊎ ((f : WireFault) × Fault f)
one_of Read Fault r (Ok x) h e = inl (x, (h.ok x).0 e)
one_of Read Fault r (Err f) h e = inr (f, (h.err f).0 e)

pub is_either : {X : Type 0} (Read : X → Type 0) (Fault : WireFault → Type 0) (r : Result X WireFault) → ReadsAs Read Fault r → IsEither Read Fault
is_either Read Fault r h = record {
  one = one_of Read Fault r r h refl;
  not_both = λ x f a b. apart x f r ((h.ok x).1 a) ((h.err f).1 b);
  one_meaning = λ x y a b. same_read x y (sym ((h.ok x).1 a) ∙ (h.ok y).1 b);
  one_fault = λ f g a b. same_fault f g r ((h.err f).1 a) ((h.err g).1 b);
}
