-- Requests, replies and contents that are written are read, and those of the one spelling that are read are written.
use Rattle.std.proofs.Common.{◌≡◌, ℕ, ◌-◌, ◌^◌, ◌<◌, ◌≤◌, true, false, List, [], ◌∷◌, ◌++◌, length, Option, Some, None, Result, Ok, Err, IsUtf8, refl, sym, ap, subst, ◌∙◌, append_assoc, length-append, arith}
use Rattle.std.proofs.lemmas.List.{append-nil}
use Rattle.std.proofs.lemmas.List.Concat.{flat_map-cons}
use Rattle.std.specs.List.{flat_map, AllByRecursion}
use Rattle.hybrid_clock.specs.declared.stamp.Stamp.{Stamp}
use Rattle.field_merge.specs.declared.message.Message.{Message}
use Rattle.field_merge.specs.Messages.{IsMessage, AreMessages}
use Rattle.sync_wire.specs.declared.fault.WireFault.{WireFault}
use Rattle.sync_wire.specs.declared.layout.Layout.{Layout}
use Rattle.sync_wire.specs.declared.layout.Layout.TheVariants as layouts
use Rattle.sync_wire.specs.declared.request.SyncRequest.{SyncRequest}
use Rattle.sync_wire.specs.declared.response.SyncResponse.{SyncResponse}
use Rattle.sync_wire.specs.Reading.{fault_of}
use Rattle.sync_wire.specs.Layouts.{allows}
use Rattle.sync_wire.specs.Fields.{Tagged}
use Rattle.sync_wire.specs.Envelope.{Written, content_check, content_of, content_at, envelope_at}
use Rattle.sync_wire.specs.Spelling.{Means}
use Rattle.sync_wire.specs.Wire.{envelope_fault, request_check, request_of, request_at, response_check, response_of, response_at, IsRequest, IsResponse, IsMessageContent}
use Rattle.sync_wire.specs.Gather.{with_request_field, with_response_field}
use Rattle.sync_wire.specs.Canon.{text_field, Parts, envelope_spelled, envelope_field, content_spelled, written_of, parts_of, content_bytes, message_field, request_bytes, response_bytes}
use Rattle.sync_wire.specs.Laws.{HasTexts, RequestTexts, ResponseTexts}
use Rattle.sync_wire.proofs.Gather.{IsOn, is_over}
use Rattle.sync_wire.proofs.Totals.{is_meant, is_read, content_meant, request_begin, response_begin}
use Rattle.sync_wire.proofs.Codec.{held, bytes_field_is, bytes_field_len, passes, taken, Fine, fine_of_utf8, fine_of_ok, text_passes}
use Rattle.sync_wire.proofs.Envelopes.{content_read, content_back, message_again, message_said, envelope_read, envelope_back}

-- ---- envelopes, of a request and of a reply

-- what is made of messages, and goes on with a field that is an envelope
record TakesEnvelopes {X : Type 0} (check : Tagged → Option WireFault) (with : X → Tagged → X) (layout : Layout) (make : List Message → X) : Type 0 where
  allowed : allows layout 1 2 ≡ true
  checks : (place : ℕ) (bytes : List ℕ) → check (held 1 place bytes) ≡ envelope_fault place bytes
  takes : (ms : List Message) (place : ℕ) (bytes : List ℕ) (m : Message) → envelope_at place bytes ≡ Ok (Some m) → with (make ms) (held 1 place bytes) ≡ make (ms ++ m ∷ [])

envelope_passes : {X : Type 0} (check : Tagged → Option WireFault) (with : X → Tagged → X) (layout : Layout) (make : List Message → X) (end : ℕ) (total : Result X WireFault)
    → TakesEnvelopes check with layout make → (ms : List Message) (p : Parts) (m : Message) (rest : List ℕ) → length (envelope_spelled p) < 2 ^ 64
    → envelope_at (end - length rest) (envelope_spelled p) ≡ Ok (Some m)
    → IsOn check with layout end (make ms) (envelope_field p ++ rest) total → IsOn check with layout end (make (ms ++ m ∷ [])) rest total
envelope_passes check with layout make end total t ms p m rest fits is on =
    let at = end - length rest in
    let env = envelope_spelled p in
    let none : check (held 1 at env) ≡ None = t.checks at env ∙ rw is refl in
    subst (λ x. IsOn check with layout end x rest total) (t.takes ms at env m is)
    (passes check with layout end (make ms) (envelope_field p) rest total (held 1 at env) (bytes_field_is layout 1 at env (omega arith) t.allowed fits) none on)

-- an envelope in front is shorter than what is left, and ends at its place
front_len : (p : Parts) (rest : List ℕ) (end : ℕ) → end < 2 ^ 64 → length (envelope_field p ++ rest) ≤ end
    → (length (envelope_spelled p) < 2 ^ 64) × (length (envelope_spelled p) ≤ end - length rest) × (end - length rest < 2 ^ 64)
front_len p rest end wide placed =
    let inner = bytes_field_len 1 (envelope_spelled p) in
    let len = length-append (envelope_field p) rest in
    (omega arith, omega arith, omega arith)

regrouped : {A : Type 0} (f : A → List ℕ) (x : A) (xs : List A) (rest : List ℕ) → flat_map f (x ∷ xs) ++ rest ≡ f x ++ (flat_map f xs ++ rest)
regrouped f x xs rest = ap (λ (r : List ℕ). r ++ rest) (flat_map-cons f x xs) ∙ append_assoc (f x) (flat_map f xs) rest

-- valid messages of UTF-8 are read
messages_on : {X : Type 0} (check : Tagged → Option WireFault) (with : X → Tagged → X) (layout : Layout) (make : List Message → X) (end : ℕ) (total : Result X WireFault)
    → TakesEnvelopes check with layout make → (before ms : List Message) (rest : List ℕ) → end < 2 ^ 64 → AreMessages ms → AllByRecursion HasTexts ms
    → IsOn check with layout end (make before) (flat_map message_field ms ++ rest) total → IsOn check with layout end (make (before ++ ms)) rest total
messages_on check with layout make end total t before [] rest wide valid has on = rw (append-nil before) on
messages_on check with layout make end total t before (m ∷ ms) rest wide valid has on =
    let after = flat_map message_field ms ++ rest in
    let on' : IsOn check with layout end (make before) (message_field m ++ after) total = subst (λ (b : List ℕ). IsOn check with layout end (make before) b total) (regrouped message_field m ms rest) on in
    let front = front_len (parts_of m) after end wide on'.placed in
    let next = envelope_passes check with layout make end total t before (parts_of m) m after front.0 (envelope_read (end - length after) m front.2 valid.0 has.0 front.1) on' in
    subst (λ (es : List Message). IsOn check with layout end (make es) rest total) (append_assoc before (m ∷ []) ms) (messages_on check with layout make end total t (before ++ m ∷ []) ms rest wide valid.1 has.1 next)

-- the messages of envelopes that are read, whose envelopes are these
abbrev Found : {X : Type 0} → (Tagged → Option WireFault) → (X → Tagged → X) → Layout → (List Message → X) → ℕ → Result X WireFault → List Message → List Parts → List ℕ → Type 0
Found check with layout make end total before ps rest =
    (ms : List Message) × (flat_map message_field ms ≡ flat_map envelope_field ps) × IsOn check with layout end (make (before ++ ms)) rest total

no_fault_read : (r : Result (Option Message) WireFault) → fault_of r ≡ None → (o : Option Message) × (r ≡ Ok o)
no_fault_read (Ok o) e = (o, refl)
no_fault_read (Err f) e = absurd cc

envelopes_back : {X : Type 0} (check : Tagged → Option WireFault) (with : X → Tagged → X) (layout : Layout) (make : List Message → X) (end : ℕ) (total : Result X WireFault) (z : X)
    → TakesEnvelopes check with layout make → (before : List Message) (ps : List Parts) (rest : List ℕ) → end < 2 ^ 64 → total ≡ Ok z
    → IsOn check with layout end (make before) (flat_map envelope_field ps ++ rest) total → Found check with layout make end total before ps rest
envelopes_back check with layout make end total z t before [] rest wide ok on = ([], refl, rw (append-nil before) on)
envelopes_back check with layout make end total z t before (p ∷ ps) rest wide ok on =
    let after = flat_map envelope_field ps ++ rest in
    let at = end - length after in
    let env = envelope_spelled p in
    let on' : IsOn check with layout end (make before) (envelope_field p ++ after) total = subst (λ (b : List ℕ). IsOn check with layout end (make before) b total) (regrouped envelope_field p ps rest) on in
    let front = front_len p after end wide on'.placed in
    let none = taken check with layout end (make before) z (envelope_field p) after total (held 1 at env) (bytes_field_is layout 1 at env (omega arith) t.allowed front.0) ok on' in
    let read = no_fault_read (envelope_at at env) (sym (t.checks at env) ∙ none) in
    let said = envelope_back at p read.0 front.2 front.1 read.1 in
    let is : envelope_at at env ≡ Ok (Some said.0) = read.1 ∙ ap (λ (o : Option Message). Ok o) said.1 in
    let next = envelope_passes check with layout make end total t before p said.0 after front.0 is on' in
    let more = envelopes_back check with layout make end total z t (before ++ said.0 ∷ []) ps rest wide ok next in
    let same : flat_map message_field (said.0 ∷ more.0) ≡ flat_map envelope_field (p ∷ ps) =
    flat_map-cons message_field said.0 more.0 ∙ ap (λ (q : Parts). envelope_field q ++ flat_map message_field more.0) said.2 ∙ ap (λ (r : List ℕ). envelope_field p ++ r) more.1 ∙ sym (flat_map-cons envelope_field p ps) in
    (said.0 ∷ more.0, same, subst (λ (es : List Message). IsOn check with layout end (make es) rest total) (append_assoc before (said.0 ∷ []) more.0) more.2)

-- ---- a request

abbrev request : List Message → List ℕ → List ℕ → List ℕ → SyncRequest
request ms f g s = record { messages = ms; encrypted = false; file = f; group = g; since = s }

request_takes : TakesEnvelopes request_check with_request_field layouts.Request (λ ms. request ms [] [] [])
request_takes = record { allowed = refl; checks = λ place bytes. refl; takes = λ ms place bytes m e. rw e refl }

-- what follows the envelopes
request_texts : (end : ℕ) (ms : List Message) (f g s : List ℕ) (total : Result SyncRequest WireFault) → end < 2 ^ 64
    → Fine request_check with_request_field layouts.Request end total f → Fine request_check with_request_field layouts.Request end total g → Fine request_check with_request_field layouts.Request end total s
    → IsOn request_check with_request_field layouts.Request end (request ms [] [] []) (text_field 2 f ++ (text_field 3 g ++ text_field 6 s)) total → total ≡ Ok (request ms f g s)
request_texts end ms f g s total wide ff fg fs at0 =
    let at1 = text_passes request_check with_request_field layouts.Request end (request ms [] [] []) (request ms f [] []) 2 f (text_field 3 g ++ text_field 6 s) total
    wide (omega arith) refl (λ place. refl) ff (λ e. ap (λ (x : List ℕ). request ms x [] []) (sym e)) (rw (append-nil ms) refl) at0 in
    let at2 = text_passes request_check with_request_field layouts.Request end (request ms f [] []) (request ms f g []) 3 g (text_field 6 s) total
    wide (omega arith) refl (λ place. refl) fg (λ e. ap (λ (x : List ℕ). request ms f x []) (sym e)) (rw (append-nil ms) refl) at1 in
    let nil = append-nil (text_field 6 s) in
    let at2' : IsOn request_check with_request_field layouts.Request end (request ms f g []) (text_field 6 s ++ []) total = rw nil at2 in
    let at3 = text_passes request_check with_request_field layouts.Request end (request ms f g []) (request ms f g s) 6 s [] total
    wide (omega arith) refl (λ place. refl) fs (λ e. ap (λ (x : List ℕ). request ms f g x) (sym e)) (rw (append-nil ms) refl) at2' in
    is_over request_check with_request_field layouts.Request end (request ms f g s) [] total at3 refl

-- ---- a reply

abbrev response : List Message → List ℕ → SyncResponse
response ms t = record { messages = ms; encrypted = false; merkle = t }

response_takes : TakesEnvelopes response_check with_response_field layouts.Response (λ ms. response ms [])
response_takes = record { allowed = refl; checks = λ place bytes. refl; takes = λ ms place bytes m e. rw e refl }

response_texts : (end : ℕ) (ms : List Message) (t : List ℕ) (total : Result SyncResponse WireFault) → end < 2 ^ 64
    → Fine response_check with_response_field layouts.Response end total t
    → IsOn response_check with_response_field layouts.Response end (response ms []) (text_field 2 t) total → total ≡ Ok (response ms t)
response_texts end ms t total wide ft at0 =
    let nil = append-nil (text_field 2 t) in
    let at0' : IsOn response_check with_response_field layouts.Response end (response ms []) (text_field 2 t ++ []) total = rw nil at0 in
    let at1 = text_passes response_check with_response_field layouts.Response end (response ms []) (response ms t) 2 t [] total
    wide (omega arith) refl (λ place. refl) ft (λ e. ap (λ (x : List ℕ). response ms x) (sym e)) (rw (append-nil ms) refl) at0' in
    is_over response_check with_response_field layouts.Response end (response ms t) [] total at1 refl

-- ---- what is written is read

request_again : (end : ℕ) (x : SyncRequest) → end < 2 ^ 64 → x.encrypted ≡ false → AreMessages x.messages → RequestTexts x → length (request_bytes x) ≤ end → request_at end (request_bytes x) ≡ Ok x
request_again end x wide plain valid has p =
    let total = request_at end (request_bytes x) in
    let rest = text_field 2 x.file ++ (text_field 3 x.group ++ text_field 6 x.since) in
    let at0 = request_begin end (request_bytes x) [] [] [] [] p refl refl refl refl in
    let at1 = messages_on request_check with_request_field layouts.Request (λ ms. request ms [] [] []) end total request_takes [] x.messages rest wide valid has.messages at0 in
    let fine = λ (t : List ℕ) (u : IsUtf8 t). fine_of_utf8 request_check with_request_field layouts.Request end total t u in
    let e : request x.messages x.file x.group x.since ≡ x = rw plain refl in
    request_texts end x.messages x.file x.group x.since total wide (fine x.file has.file) (fine x.group has.group) (fine x.since has.since) at1 ∙ ap (λ (y : SyncRequest). Ok y) e

pub request_reads_back : (x : SyncRequest) → x.encrypted ≡ false → AreMessages x.messages → RequestTexts x → length (request_bytes x) < 2 ^ 64 → IsRequest (request_bytes x) x
unfolding request_at
request_reads_back x plain valid has wide =
    is_meant request_check layouts.Request request_of (length (request_bytes x)) (request_bytes x) x (request_again (length (request_bytes x)) x wide plain valid has (omega arith))

response_again : (end : ℕ) (x : SyncResponse) → end < 2 ^ 64 → x.encrypted ≡ false → AreMessages x.messages → ResponseTexts x → length (response_bytes x) ≤ end → response_at end (response_bytes x) ≡ Ok x
response_again end x wide plain valid has p =
    let total = response_at end (response_bytes x) in
    let at0 = response_begin end (response_bytes x) [] [] p refl refl in
    let at1 = messages_on response_check with_response_field layouts.Response (λ ms. response ms []) end total response_takes [] x.messages (text_field 2 x.merkle) wide valid has.messages at0 in
    let e : response x.messages x.merkle ≡ x = rw plain refl in
    response_texts end x.messages x.merkle total wide (fine_of_utf8 response_check with_response_field layouts.Response end total x.merkle has.merkle) at1 ∙ ap (λ (y : SyncResponse). Ok y) e

pub response_reads_back : (x : SyncResponse) → x.encrypted ≡ false → AreMessages x.messages → ResponseTexts x → length (response_bytes x) < 2 ^ 64 → IsResponse (response_bytes x) x
unfolding response_at
response_reads_back x plain valid has wide =
    is_meant response_check layouts.Response response_of (length (response_bytes x)) (response_bytes x) x (response_again (length (response_bytes x)) x wide plain valid has (omega arith))

pub content_reads_back : (m : Message) → IsMessage m → HasTexts m → length (content_bytes m) < 2 ^ 64 → IsMessageContent m.stamp (content_bytes m) m
content_reads_back m valid has wide =
    (written_of m, content_meant (content_bytes m) (written_of m) (content_read (length (content_bytes m)) (written_of m) wide (omega arith) has.dataset has.row has.column has.value), message_again 0 m valid)

-- ---- what is read of the one spelling is written so again

abbrev asked : SyncRequest → Result SyncRequest WireFault
asked x = Ok x

same_asked : (x y : SyncRequest) → asked x ≡ asked y → x ≡ y
same_asked x y e = cc

abbrev request_spelled : List Parts → List ℕ → List ℕ → List ℕ → List ℕ
request_spelled ps f g s = flat_map envelope_field ps ++ (text_field 2 f ++ (text_field 3 g ++ text_field 6 s))

request_is_read : (bytes : List ℕ) (x : SyncRequest) → IsRequest bytes x → request_at (length bytes) bytes ≡ Ok x
unfolding request_at
request_is_read bytes x w = is_read request_check layouts.Request request_of (length bytes) bytes x w

pub request_writes_back : (ps : List Parts) (f g s : List ℕ) (x : SyncRequest) → length (request_spelled ps f g s) < 2 ^ 64 → IsRequest (request_spelled ps f g s) x
    → (x.encrypted ≡ false) × (request_bytes x ≡ request_spelled ps f g s)
request_writes_back ps f g s x wide w =
    let bytes = request_spelled ps f g s in
    let end = length bytes in
    let total = request_at end bytes in
    let ok = request_is_read bytes x w in
    let at0 = request_begin end bytes [] [] [] [] (omega arith) refl refl refl refl in
    let found = envelopes_back request_check with_request_field layouts.Request (λ ms. request ms [] [] []) end total x request_takes [] ps (text_field 2 f ++ (text_field 3 g ++ text_field 6 s)) wide ok at0 in
    let fine = λ (t : List ℕ). fine_of_ok request_check with_request_field layouts.Request end total t x wide ok in
    let made = request_texts end found.0 f g s total wide (fine f) (fine g) (fine s) found.2 in
    let same : x ≡ request found.0 f g s = same_asked x _ (sym ok ∙ made) in
    let again = found.1 in
    rw same (refl, rw again refl)

abbrev replied : SyncResponse → Result SyncResponse WireFault
replied x = Ok x

same_replied : (x y : SyncResponse) → replied x ≡ replied y → x ≡ y
same_replied x y e = cc

abbrev response_spelled : List Parts → List ℕ → List ℕ
response_spelled ps t = flat_map envelope_field ps ++ text_field 2 t

response_is_read : (bytes : List ℕ) (x : SyncResponse) → IsResponse bytes x → response_at (length bytes) bytes ≡ Ok x
unfolding response_at
response_is_read bytes x w = is_read response_check layouts.Response response_of (length bytes) bytes x w

pub response_writes_back : (ps : List Parts) (t : List ℕ) (x : SyncResponse) → length (response_spelled ps t) < 2 ^ 64 → IsResponse (response_spelled ps t) x
    → (x.encrypted ≡ false) × (response_bytes x ≡ response_spelled ps t)
response_writes_back ps t x wide w =
    let bytes = response_spelled ps t in
    let end = length bytes in
    let total = response_at end bytes in
    let ok = response_is_read bytes x w in
    let at0 = response_begin end bytes [] [] (omega arith) refl refl in
    let found = envelopes_back response_check with_response_field layouts.Response (λ ms. response ms []) end total x response_takes [] ps (text_field 2 t) wide ok at0 in
    let made = response_texts end found.0 t total wide (fine_of_ok response_check with_response_field layouts.Response end total t x wide ok) found.2 in
    let same : x ≡ response found.0 t = same_replied x _ (sym ok ∙ made) in
    let again = found.1 in
    rw same (refl, rw again refl)

content_is_read : (bytes : List ℕ) (w : Written) → Means content_check layouts.Content content_of (length bytes) bytes w → content_at (length bytes) bytes ≡ Ok w
unfolding content_at
content_is_read bytes w h = is_read content_check layouts.Content content_of (length bytes) bytes w h

pub content_writes_back : (stamp : Stamp) (v : Written) (m : Message) → length (content_spelled v) < 2 ^ 64 → IsMessageContent stamp (content_spelled v) m
    → (m.stamp ≡ stamp) × (content_bytes m ≡ content_spelled v)
content_writes_back stamp v m wide h =
    let bytes = content_spelled v in
    let same = content_back (length bytes) v h.0 wide (omega arith) (content_is_read bytes h.0 h.1) in
    let said = message_said 0 stamp h.0 m h.2 in
    (said.0, ap content_spelled (said.1 ∙ same))
