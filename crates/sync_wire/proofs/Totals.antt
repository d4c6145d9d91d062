-- What all fields of a message make.
use Rattle.std.proofs.Common.{◌≡◌, ◌≢◌, ℕ, ◌≤◌, List, [], ◌∷◌, ◌++◌, ◌||◌, Bool, true, false, length, Option, Some, None, Result, Ok, Err, refl, sym, ap, subst, ◌∙◌, append_assoc, inl, inr, arith}
use Rattle.std.specs.Prelude.{IfOk, IfErr}
use Rattle.std.specs.List.{filter_map, cons_option, list_any}
use Rattle.std.proofs.lemmas.List.{append-nil}
use Rattle.field_values.specs.Names.{field_of, names_fault}
use Rattle.hybrid_clock.specs.declared.stamp.Stamp.{Stamp}
use Rattle.field_merge.specs.declared.message.Message.{Message}
use Rattle.field_merge.specs.Messages.{message_of, AreMessages}
use Rattle.sync_wire.specs.declared.fault.WireFault.{WireFault}
use Rattle.sync_wire.specs.declared.fault.WireFault.TheVariants as faults
use Rattle.sync_wire.specs.declared.layout.Layout.{Layout}
use Rattle.sync_wire.specs.declared.layout.Layout.TheVariants as layouts
use Rattle.sync_wire.specs.declared.request.SyncRequest.{SyncRequest}
use Rattle.sync_wire.specs.declared.response.SyncResponse.{SyncResponse}
use Rattle.sync_wire.specs.Reading.{Fails, Gives, answer}
use Rattle.sync_wire.specs.Fields.{Tagged}
use Rattle.sync_wire.specs.Meaning.{steps, first_fault, fields_in, reading, last_else, text_in, flag_in, bytes_in}
use Rattle.sync_wire.specs.Spelling.{Means, FirstFault}
use Rattle.sync_wire.specs.Envelope.{Written, content_check, content_of, content_at, Outline, envelope_check, outline_of, outline_at, message_from}
use Rattle.sync_wire.specs.Wire.{message_in_field, is_closed_field, request_check, request_of, request_at, response_check, response_of, response_at, IsRequest, IsRequestFault, IsResponse, IsResponseFault, IsMessageContent, IsContentFault}
use Rattle.sync_wire.specs.Gather.{with_text, with_part, with_request_field, with_response_field}
use Rattle.sync_wire.proofs.Steps.{fault_of_steps, steps_of_fault, steps_of_fields, fields_of_steps, whole_if_faultless, no_fault_in, fields_in-read_all}
use Rattle.sync_wire.proofs.Gather.{folded, gather_is, IsOn, begins, last_else-cons}

-- ---- reading field by field gives what all fields mean

pub starts : {X : Type 0} (check : Tagged → Option WireFault) (with : X → Tagged → X) (layout : Layout) (meaning : List Tagged → X) (start x : X) (end : ℕ) (bytes : List ℕ)
    → ((ts : List Tagged) → folded with start ts ≡ meaning ts) → length bytes ≤ end → x ≡ start → IsOn check with layout end x bytes (reading check meaning (steps layout end bytes))
starts check with layout meaning start x end bytes folds p e =
    let ss = steps layout end bytes in
    let total = gather_is check with start ss ∙ ap (answer (first_fault check ss)) (folds (fields_in ss)) in
    rw e (subst (λ (t : Result _ WireFault). IsOn check with layout end start bytes t) total (begins check with layout end start bytes p))

-- ---- a content

abbrev no_texts : Written
no_texts = record { dataset = []; row = []; column = []; value = [] }

content_is : (w : Written) (ts : List Tagged) → folded with_text w ts
    ≡ record { dataset = last_else w.dataset (text_in 1) ts; row = last_else w.row (text_in 2) ts; column = last_else w.column (text_in 3) ts; value = last_else w.value (text_in 4) ts }
content_is w [] = refl
content_is w (t ∷ ts) = content_is (with_text w t) ts ∙ sym (rw (last_else-cons w.dataset (text_in 1) t ts, last_else-cons w.row (text_in 2) t ts, last_else-cons w.column (text_in 3) t ts, last_else-cons w.value (text_in 4) t ts) refl)

pub content_begin : (end : ℕ) (bytes : List ℕ) (w : Written) → length bytes ≤ end → w ≡ no_texts → IsOn content_check with_text layouts.Content end w bytes (content_at end bytes)
unfolding content_at
content_begin end bytes w p e = starts content_check with_text layouts.Content content_of no_texts w end bytes (content_is no_texts) p e

-- ---- an envelope

abbrev no_outline : Outline
no_outline = record { stamp = []; encrypted = false; content = (0, []) }

outline_is : (o : Outline) (ts : List Tagged) → folded with_part o ts
    ≡ record { stamp = last_else o.stamp (text_in 1) ts; encrypted = last_else o.encrypted (flag_in 2) ts; content = last_else o.content (bytes_in 3) ts }
outline_is o [] = refl
outline_is o (t ∷ ts) = outline_is (with_part o t) ts ∙ sym (rw (last_else-cons o.stamp (text_in 1) t ts, last_else-cons o.encrypted (flag_in 2) t ts, last_else-cons o.content (bytes_in 3) t ts) refl)

pub outline_begin : (end : ℕ) (bytes : List ℕ) (o : Outline) → length bytes ≤ end → o ≡ no_outline → IsOn envelope_check with_part layouts.Envelope end o bytes (outline_at end bytes)
unfolding outline_at
outline_begin end bytes o p e = starts envelope_check with_part layouts.Envelope outline_of no_outline o end bytes (outline_is no_outline) p e

-- ---- a request

one_more : {A : Type 0} (xs ys : List A) (o : Option A) → (xs ++ cons_option o []) ++ ys ≡ xs ++ cons_option o ys
one_more xs ys None = append_assoc xs [] ys
one_more xs ys (Some y) = append_assoc xs (y ∷ []) ys

or_assoc : (a b c : Bool) → ((a || b) || c) ≡ (a || (b || c))
or_assoc true b c = refl
or_assoc false b c = refl

or_false : (a : Bool) → (a || false) ≡ a
or_false true = refl
or_false false = refl

abbrev no_request : SyncRequest
no_request = record { messages = []; encrypted = false; file = []; group = []; since = [] }

request_is : (r : SyncRequest) (ts : List Tagged) → folded with_request_field r ts ≡ record {
  messages = r.messages ++ filter_map message_in_field ts;
  encrypted = r.encrypted || list_any is_closed_field ts;
  file = last_else r.file (text_in 2) ts;
  group = last_else r.group (text_in 3) ts;
  since = last_else r.since (text_in 6) ts;
}
request_is r [] = sym (rw (append-nil r.messages, or_false r.encrypted) refl)
request_is r (t ∷ ts) = request_is (with_request_field r t) ts ∙ sym (rw (last_else-cons r.file (text_in 2) t ts, last_else-cons r.group (text_in 3) t ts, last_else-cons r.since (text_in 6) t ts, ← one_more r.messages (filter_map message_in_field ts) (message_in_field t), ← or_assoc r.encrypted (is_closed_field t) (list_any is_closed_field ts)) refl)

pub request_begin : (end : ℕ) (bytes f g s : List ℕ) (ms : List Message) → length bytes ≤ end → ms ≡ [] → f ≡ [] → g ≡ [] → s ≡ []
    → IsOn request_check with_request_field layouts.Request end (record { messages = ms; encrypted = false; file = f; group = g; since = s }) bytes (request_at end bytes)
unfolding request_at
request_begin end bytes f g s ms p em ef eg es = starts request_check with_request_field layouts.Request request_of no_request _ end bytes (request_is no_request) p (rw (em, ef, eg, es) refl)

-- ---- a reply

abbrev no_response : SyncResponse
no_response = record { messages = []; encrypted = false; merkle = [] }

response_is : (r : SyncResponse) (ts : List Tagged) → folded with_response_field r ts ≡ record {
  messages = r.messages ++ filter_map message_in_field ts;
  encrypted = r.encrypted || list_any is_closed_field ts;
  merkle = last_else r.merkle (text_in 2) ts;
}
response_is r [] = sym (rw (append-nil r.messages, or_false r.encrypted) refl)
response_is r (t ∷ ts) = response_is (with_response_field r t) ts ∙ sym (rw (last_else-cons r.merkle (text_in 2) t ts, ← one_more r.messages (filter_map message_in_field ts) (message_in_field t), ← or_assoc r.encrypted (is_closed_field t) (list_any is_closed_field ts)) refl)

pub response_begin : (end : ℕ) (bytes t : List ℕ) (ms : List Message) → length bytes ≤ end → ms ≡ [] → t ≡ []
    → IsOn response_check with_response_field layouts.Response end (record { messages = ms; encrypted = false; merkle = t }) bytes (response_at end bytes)
unfolding response_at
response_begin end bytes t ms p em et = starts response_check with_response_field layouts.Response response_of no_response _ end bytes (response_is no_response) p (rw (em, et) refl)

pub none_valid : (ms : List Message) → ms ≡ [] → AreMessages ms
none_valid ms e = rw e tt

-- ---- reading gives what the bytes mean, or their first fault

answered : {X : Type 0} (o : Option WireFault) (m x : X) → answer o m ≡ Ok x → (o ≡ None) × (x ≡ m)
answered None m x e = (refl, cc)
answered (Some f) m x e = absurd cc

refused : {X : Type 0} (o : Option WireFault) (m : X) (f : WireFault) → answer o m ≡ Err f → o ≡ Some f
refused None m f e = absurd cc
refused (Some g) m f e = cc

pub is_meant : {X : Type 0} (check : Tagged → Option WireFault) (layout : Layout) (meaning : List Tagged → X) (end : ℕ) (bytes : List ℕ) (x : X)
    → reading check meaning (steps layout end bytes) ≡ Ok x → Means check layout meaning end bytes x
is_meant check layout meaning end bytes x e =
    let ss = steps layout end bytes in
    let a = answered (first_fault check ss) (meaning (fields_in ss)) x e in
    let w = whole_if_faultless check ss a.0 in
    record { fields = fields_in ss; spelled = fields_of_steps layout end (length bytes) bytes (fields_in ss) (omega arith) w.0; faultless = w.1; said = a.1 }

pub is_read : {X : Type 0} (check : Tagged → Option WireFault) (layout : Layout) (meaning : List Tagged → X) (end : ℕ) (bytes : List ℕ) (x : X)
    → Means check layout meaning end bytes x → reading check meaning (steps layout end bytes) ≡ Ok x
is_read check layout meaning end bytes x w =
    let steps-are = steps_of_fields layout end (length bytes) bytes w.fields (omega arith) w.spelled in
    rw (steps-are, no_fault_in check w.fields w.faultless, fields_in-read_all w.fields, w.said) refl

pub is_fault : {X : Type 0} (check : Tagged → Option WireFault) (layout : Layout) (meaning : List Tagged → X) (end : ℕ) (bytes : List ℕ) (f : WireFault)
    → reading check meaning (steps layout end bytes) ≡ Err f → FirstFault check layout end bytes f
is_fault check layout meaning end bytes f e =
    let ss = steps layout end bytes in
    fault_of_steps check layout end (length bytes) bytes f (omega arith) (refused (first_fault check ss) (meaning (fields_in ss)) f e)

pub is_refused : {X : Type 0} (check : Tagged → Option WireFault) (layout : Layout) (meaning : List Tagged → X) (end : ℕ) (bytes : List ℕ) (f : WireFault)
    → FirstFault check layout end bytes f → reading check meaning (steps layout end bytes) ≡ Err f
is_refused check layout meaning end bytes f e = let h = steps_of_fault check layout end (length bytes) bytes f (omega arith) e in rw h refl

-- ---- what a reader returned, by what was read

fails_by : {Y : Type 0} (e : WireFault) (r : Result Y WireFault) → Fails e r → e ≢ faults.NoMemory → r ≡ Err e
fails_by faults.NoMemory r h some = absurd (some refl)
fails_by (faults.Truncated at) r h some = h
fails_by (faults.BadTag at) r h some = h
fails_by (faults.LongVarint at) r h some = h
fails_by (faults.NotUtf8 at) r h some = h
fails_by (faults.BadStamp at) r h some = h
fails_by (faults.BadMessage at) r h some = h

pub found : {X : Type 0} (check : Tagged → Option WireFault) (layout : Layout) (meaning : List Tagged → X) (end : ℕ) (bytes : List ℕ) (r : Result X WireFault)
    → Gives (λ x. x) r (reading check meaning (steps layout end bytes)) → IfOk r (Means check layout meaning end bytes)
found check layout meaning end bytes (Ok x) h = is_meant check layout meaning end bytes x h
found check layout meaning end bytes (Err e) h = tt

pub fault_told : {X : Type 0} (check : Tagged → Option WireFault) (layout : Layout) (meaning : List Tagged → X) (end : ℕ) (bytes : List ℕ) (r : Result X WireFault)
    → Gives (λ x. x) r (reading check meaning (steps layout end bytes)) → IfErr r (λ e. e ≢ faults.NoMemory → FirstFault check layout end bytes e)
fault_told check layout meaning end bytes (Ok x) h = tt
fault_told check layout meaning end bytes (Err e) h = λ some. is_fault check layout meaning end bytes e (fails_by e _ h some)

-- ---- a request, a reply and a content

pub request_found : (bytes : List ℕ) (r : Result SyncRequest WireFault) → Gives (λ x. x) r (request_at (length bytes) bytes) → IfOk r (IsRequest bytes)
unfolding request_at
request_found bytes r h = found request_check layouts.Request request_of (length bytes) bytes r h

pub request_fault : (bytes : List ℕ) (r : Result SyncRequest WireFault) → Gives (λ x. x) r (request_at (length bytes) bytes) → IfErr r (λ e. e ≢ faults.NoMemory → IsRequestFault bytes e)
unfolding request_at
request_fault bytes r h = fault_told request_check layouts.Request request_of (length bytes) bytes r h

pub response_found : (bytes : List ℕ) (r : Result SyncResponse WireFault) → Gives (λ x. x) r (response_at (length bytes) bytes) → IfOk r (IsResponse bytes)
unfolding response_at
response_found bytes r h = found response_check layouts.Response response_of (length bytes) bytes r h

pub response_fault : (bytes : List ℕ) (r : Result SyncResponse WireFault) → Gives (λ x. x) r (response_at (length bytes) bytes) → IfErr r (λ e. e ≢ faults.NoMemory → IsResponseFault bytes e)
unfolding response_at
response_fault bytes r h = fault_told response_check layouts.Response response_of (length bytes) bytes r h

pub content_meant : (bytes : List ℕ) (w : Written) → content_at (length bytes) bytes ≡ Ok w → Means content_check layouts.Content content_of (length bytes) bytes w
unfolding content_at
content_meant bytes w e = is_meant content_check layouts.Content content_of (length bytes) bytes w e

content_fault : (bytes : List ℕ) (f : WireFault) → content_at (length bytes) bytes ≡ Err f → FirstFault content_check layouts.Content (length bytes) bytes f
unfolding content_at
content_fault bytes f e = is_fault content_check layouts.Content content_of (length bytes) bytes f e

pub content_fault_told : (stamp : Stamp) (bytes : List ℕ) (e : WireFault) → Fails e (content_at (length bytes) bytes) → e ≢ faults.NoMemory → IsContentFault stamp bytes e
content_fault_told stamp bytes e h some = inl (content_fault bytes e (fails_by e _ h some))

pub message_found : (stamp : Stamp) (bytes : List ℕ) (w : Written) (r : Result Message WireFault) → content_at (length bytes) bytes ≡ Ok w → Gives (λ x. x) r (message_from 0 stamp w) → IfOk r (IsMessageContent stamp bytes)
message_found stamp bytes w (Ok m) e h = (w, content_meant bytes w e, h)
message_found stamp bytes w (Err f) e h = tt

pub message_fault_told : (stamp : Stamp) (bytes : List ℕ) (w : Written) (r : Result Message WireFault) → content_at (length bytes) bytes ≡ Ok w → Gives (λ x. x) r (message_from 0 stamp w) → IfErr r (λ e. e ≢ faults.NoMemory → IsContentFault stamp bytes e)
message_fault_told stamp bytes w (Ok m) e h = tt
message_fault_told stamp bytes w (Err f) e h = λ some. inr (w, content_meant bytes w e, fails_by f _ h some)

-- names without a fault make a message
pub message_lacked : (stamp : Stamp) (bytes : List ℕ) (w : Written) (r : Result Message WireFault) → content_at (length bytes) bytes ≡ Ok w
    → IfErr r (λ e. e ≡ faults.NoMemory → names_fault (field_of w.dataset w.row w.column) ≡ None) → IfErr r (λ e. e ≡ faults.NoMemory → (m : Message) × IsMessageContent stamp bytes m)
message_lacked stamp bytes w (Ok m) e h = tt
message_lacked stamp bytes w (Err f) e h = λ out. (message_of stamp (field_of w.dataset w.row w.column) w.value, (w, content_meant bytes w e, rw (h out) refl))
