-- What is written of messages, one after the other, and when there is something to be written.
use Rattle.std.proofs.Common.{◌≡◌, ℕ, zero, suc, ◌+◌, ◌*◌, ◌/◌, ◌%◌, ◌<◌, List, [], ◌∷◌, ◌++◌, length, take, get_or, sym, ap, ◌∙◌, append_assoc, length-append, cond, ltb, Bool, true, false, arith}
use Rattle.std.specs.List.{flat_map, AllByRecursion}
use Rattle.std.proofs.Math.Seq.{take-suc}
use Rattle.std.proofs.lemmas.List.{append-nil}
use Rattle.std.proofs.lemmas.List.Concat.{flat_map-cons}
use Rattle.field_merge.specs.declared.message.Message.{Message}
use Rattle.sync_wire.specs.declared.request.SyncRequest.{SyncRequest}
use Rattle.sync_wire.specs.declared.response.SyncResponse.{SyncResponse}
use Rattle.sync_wire.specs.Canon.{number_within, number_bytes, bytes_field, text_field, envelope_spelled, parts_of, message_field, request_bytes, response_bytes}

all_snoc : {A : Type 0} (P : A → Type 0) (xs : List A) (x : A) → AllByRecursion P xs → P x → AllByRecursion P (xs ++ x ∷ [])
all_snoc P [] x h p = (p, tt)
all_snoc P (y ∷ ys) x h p = (h.0, all_snoc P ys x h.1 p)

-- one more element has it
pub all_more : {A : Type 0} (P : A → Type 0) (xs : List A) (k : ℕ) (x : A) → k < length xs → x ≡ get_or xs k x → AllByRecursion P (take k xs) → P x → AllByRecursion P (take (k + 1) xs)
all_more P xs k x within is h p = let e : k + 1 ≡ suc k = omega arith in rw (e, take-suc xs k x within, ← is) (all_snoc P (take k xs) x h p)

flat_snoc : {A : Type 0} (f : A → List ℕ) (xs : List A) (x : A) → flat_map f (xs ++ x ∷ []) ≡ flat_map f xs ++ f x
flat_snoc f [] x = flat_map-cons f x [] ∙ append-nil (f x)
flat_snoc f (y ∷ ys) x = flat_map-cons f y (ys ++ x ∷ []) ∙ ap (λ (r : List ℕ). f y ++ r) (flat_snoc f ys x) ∙ sym (ap (λ (r : List ℕ). r ++ f x) (flat_map-cons f y ys) ∙ append_assoc (f y) (flat_map f ys) (f x))

-- one more element is written
pub written_more : {A : Type 0} (f : A → List ℕ) (xs : List A) (k : ℕ) (x : A) (before now after : List ℕ) → k < length xs → x ≡ get_or xs k x
    → now ≡ before ++ flat_map f (take k xs) → after ≡ now ++ f x → after ≡ before ++ flat_map f (take (k + 1) xs)
written_more f xs k x before now after within is e g =
    let n : k + 1 ≡ suc k = omega arith in
    let more : flat_map f (take (k + 1) xs) ≡ flat_map f (take k xs) ++ f x = rw (n, take-suc xs k x within, ← is) (flat_snoc f (take k xs) x) in
    g ∙ ap (λ (r : List ℕ). r ++ f x) e ∙ append_assoc before (flat_map f (take k xs)) (f x) ∙ sym (ap (λ (r : List ℕ). before ++ r) more)

-- ---- something is written

number_some : (k n : ℕ) → 0 < length (number_within k n)
unfolding number_within
number_some zero n = omega arith
number_some (suc k) n = elim_test (ltb n 128)
  where
    elim_test : (b : Bool) → 0 < length (cond b (n ∷ []) ((n % 128 + 128) ∷ number_within k (n / 128)))
    elim_test true = omega arith
    elim_test false = omega arith

field_some : (number : ℕ) (bytes : List ℕ) → 0 < length (bytes_field number bytes)
unfolding bytes_field number_bytes
field_some number bytes = omega (arith, number_some 9 (8 * number + 2), length-append (number_within 9 (8 * number + 2)) (number_within 9 (length bytes) ++ bytes))

text_some : (number : ℕ) (text : List ℕ) → 0 < length text → 0 < length (text_field number text)
text_some number [] h = absurd (omega arith)
text_some number (b ∷ bs) h = field_some number (b ∷ bs)

messages_some : (ms : List Message) → 0 < length ms → 0 < length (flat_map message_field ms)
messages_some [] h = absurd (omega arith)
messages_some (m ∷ ms) h =
    let e = ap length (flat_map-cons message_field m ms) in
    omega (arith, e, length-append (message_field m) (flat_map message_field ms), field_some 1 (envelope_spelled (parts_of m)))

some_left : (a b : List ℕ) → 0 < length a → 0 < length (a ++ b)
some_left a b h = omega (arith, length-append a b)

some_right : (a b : List ℕ) → 0 < length b → 0 < length (a ++ b)
some_right a b h = omega (arith, length-append a b)

pub request_messages : (x : SyncRequest) → 0 < length x.messages → 0 < length (request_bytes x)
request_messages x h = some_left (flat_map message_field x.messages) _ (messages_some x.messages h)

pub request_file : (x : SyncRequest) → 0 < length x.file → 0 < length (request_bytes x)
request_file x h = some_right (flat_map message_field x.messages) _ (some_left (text_field 2 x.file) _ (text_some 2 x.file h))

pub request_group : (x : SyncRequest) → 0 < length x.group → 0 < length (request_bytes x)
request_group x h = some_right (flat_map message_field x.messages) _ (some_right (text_field 2 x.file) _ (some_left (text_field 3 x.group) _ (text_some 3 x.group h)))

pub request_since : (x : SyncRequest) → 0 < length x.since → 0 < length (request_bytes x)
request_since x h = some_right (flat_map message_field x.messages) _ (some_right (text_field 2 x.file) _ (some_right (text_field 3 x.group) _ (text_some 6 x.since h)))

pub response_messages : (x : SyncResponse) → 0 < length x.messages → 0 < length (response_bytes x)
response_messages x h = some_left (flat_map message_field x.messages) _ (messages_some x.messages h)

pub response_merkle : (x : SyncResponse) → 0 < length x.merkle → 0 < length (response_bytes x)
response_merkle x h = some_right (flat_map message_field x.messages) _ (text_some 2 x.merkle h)
