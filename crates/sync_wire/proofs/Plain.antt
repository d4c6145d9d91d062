-- Bytes of the one spelling.
use Rattle.std.proofs.Common.{◌≡◌, inl, inr, ℕ, zero, suc, ◌+◌, ◌/◌, ◌%◌, ◌^◌, ◌<◌, ◌≤◌, false, List, [], ◌∷◌, length, All, refl, sym, ap, subst, arith}
use Rattle.std.proofs.lemmas.List.Elements.{recursion_from_All}
use Rattle.std.specs.List.{AllByRecursion}
use Rattle.std.proofs.lemmas.Bool.{cases_lt, lt-ltb, le-ltb}
use Rattle.std.proofs.Math.Nat.{pow-succ'}
use Rattle.hybrid_clock.specs.declared.stamp.Stamp.{Stamp}
use Rattle.field_merge.specs.declared.message.Message.{Message}
use Rattle.sync_wire.specs.declared.request.SyncRequest.{SyncRequest}
use Rattle.sync_wire.specs.declared.response.SyncResponse.{SyncResponse}
use Rattle.sync_wire.specs.Spelling.{Spells, IsNumber}
use Rattle.sync_wire.specs.Wire.{IsRequest, IsResponse, IsMessageContent}
use Rattle.sync_wire.specs.Canon.{number_within, number_bytes, content_bytes, request_bytes, response_bytes}
use Rattle.sync_wire.specs.Laws.{IsPlainRequest, IsPlainResponse, IsPlainContent, NumbersAreShort}
use Rattle.sync_wire.proofs.Codec.{number_is}
use Rattle.sync_wire.proofs.Bodies.{request_writes_back, response_writes_back, content_writes_back}

pub plain_request : (bytes : List ℕ) (x : SyncRequest) → IsPlainRequest bytes → length bytes < 2 ^ 64 → IsRequest bytes x → (x.encrypted ≡ false) × (request_bytes x ≡ bytes)
plain_request bytes x p =
    subst (λ (b : List ℕ). length b < 2 ^ 64 → IsRequest b x → (x.encrypted ≡ false) × (request_bytes x ≡ b)) (sym p.spelled) (request_writes_back p.envelopes p.file p.group p.since x)

pub plain_response : (bytes : List ℕ) (x : SyncResponse) → IsPlainResponse bytes → length bytes < 2 ^ 64 → IsResponse bytes x → (x.encrypted ≡ false) × (response_bytes x ≡ bytes)
plain_response bytes x p =
    subst (λ (b : List ℕ). length b < 2 ^ 64 → IsResponse b x → (x.encrypted ≡ false) × (response_bytes x ≡ b)) (sym p.spelled) (response_writes_back p.envelopes p.merkle x)

pub plain_content : (stamp : Stamp) (bytes : List ℕ) (m : Message) → IsPlainContent bytes → length bytes < 2 ^ 64 → IsMessageContent stamp bytes m → (m.stamp ≡ stamp) × (content_bytes m ≡ bytes)
plain_content stamp bytes m p =
    subst (λ (b : List ℕ). length b < 2 ^ 64 → IsMessageContent stamp b m → (m.stamp ≡ stamp) × (content_bytes m ≡ b)) (sym p.spelled) (content_writes_back stamp p.content m)

-- ---- numbers

abbrev IsByte : ℕ → Type 0
IsByte b = b < 256

some_text : (text : List ℕ) (n : ℕ) → Spells text n → 1 ≤ length text
some_text [] n s = absurd s
some_text (b ∷ bs) n s = omega arith

within_fewest : (k : ℕ) (text : List ℕ) (n : ℕ) → AllByRecursion IsByte text → Spells text n → length (number_within k n) ≤ length text
unfolding number_within
within_fewest zero text n a s = some_text text n s
within_fewest (suc k) [] n a s = absurd s
within_fewest (suc k) (b ∷ bs) n a (inl s) = let small : n < 128 = let h = s.0 in let e = s.2 in omega arith in rw (lt-ltb n 128 small) (omega arith)
within_fewest (suc k) (b ∷ bs) n a (inr s) =
    elim (cases_lt n 128) [
      | inl lt ↦ rw (lt-ltb n 128 lt) (omega arith)
      | inr ge ↦
          let byte = a.0 in
          let over = s.1 in
          let e = s.2 in
          let high : n / 128 ≡ s.0 = omega arith in
          let deep = within_fewest k bs s.0 a.1 s.3 in
          rw (le-ltb n 128 ge, high) (omega arith)
    ]

within_one : (k : ℕ) (text : List ℕ) (n : ℕ) → AllByRecursion IsByte text → Spells text n → n < 128 ^ suc k → length text ≡ length (number_within k n) → text ≡ number_within k n
unfolding number_within
within_one k [] n a s small e = absurd s
within_one zero (b ∷ bs) n a (inl s) small e = let is = s.1 in let value = s.2 in rw (is, value) refl
within_one zero (b ∷ bs) n a (inr s) small e = absurd (let more = some_text bs s.0 s.3 in omega arith)
within_one (suc k) (b ∷ bs) n a (inl s) small e = let under : n < 128 = let h = s.0 in let v = s.2 in omega arith in let is = s.1 in let value = s.2 in rw (lt-ltb n 128 under, is, value) refl
within_one (suc k) (b ∷ bs) n a (inr s) small e =
    elim (cases_lt n 128) [
      | inl lt ↦ absurd (let more = some_text bs s.0 s.3 in let one : length (number_within (suc k) n) ≡ 1 = rw (lt-ltb n 128 lt) refl in omega arith)
      | inr ge ↦
          let byte = a.0 in
          let over = s.1 in
          let v = s.2 in
          let high : n / 128 ≡ s.0 = omega arith in
          let low : n % 128 + 128 ≡ b = omega arith in
          let room : s.0 < 128 ^ suc k = omega (arith, pow-succ' 128 (suc k)) in
          let len : length bs ≡ length (number_within k s.0) = let l : length (number_within (suc k) n) ≡ suc (length (number_within k s.0)) = rw (le-ltb n 128 ge, high) refl in omega arith in
          let deep = within_one k bs s.0 a.1 s.3 room len in
          rw (le-ltb n 128 ge, high, low) (ap (λ (x : List ℕ). b ∷ x) deep)
    ]

numbers_fewest : (text : List ℕ) (n : ℕ) → All IsByte text → IsNumber text n → length (number_bytes n) ≤ length text
unfolding number_bytes
numbers_fewest text n a s = within_fewest 9 text n (recursion_from_All IsByte text a) s.spells

numbers_one : (text : List ℕ) (n : ℕ) → All IsByte text → IsNumber text n → length text ≡ length (number_bytes n) → text ≡ number_bytes n
unfolding number_bytes
numbers_one text n a s e = let fits = s.fits in within_one 9 text n (recursion_from_All IsByte text a) s.spells (omega arith) e

pub numbers_short : NumbersAreShort
numbers_short = record { spelled = number_is; fewest = numbers_fewest; one = numbers_one }
