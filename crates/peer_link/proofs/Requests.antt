-- Whether bytes are a request for the server's group.
use Rattle.std.proofs.Common.{◌≡◌, ◌≢◌, ◌<◌, ◌==◌, ◌+◌, ◌^◌, ℕ, List, [], ◌∷◌, ◌++◌, length, drop, codes, Bool, true, false, cond, not, nat_lt, None, Some, ◌&&◌, refl, sym, ap, ◌∙◌, subst, append_assoc, length-append, arith}
use Rattle.std.proofs.lemmas.List.{drop-append-le, drop_all}
use Rattle.std.specs.Char.{is_ascii_digit, digit_value}
use Rattle.std.specs.Fmt.{decimal}
use Rattle.std.specs.List.{list_all, position, position_or_len}
use Rattle.std.specs.Str.Parse.{AllDigits}
use Rattle.std.proofs.lemmas.Fmt.{decimal_is_IsNumeral}
use Rattle.std.proofs.lemmas.Str.Parse.{digit_from_value}
use Rattle.std.specs.Str.{bytes_eq}
use Rattle.std.proofs.lemmas.Slice.Eq.{bytes_eq-Decides}
use Rattle.std.proofs.lemmas.Bool.{lt-ltb}
use Rattle.std.proofs.lemmas.Bool.Decides.{nat_tests}
use Rattle.field_merge.specs.Messages.{AreMessages}
use Rattle.sync_wire.specs.declared.fault.WireFault.{WireFault}
use Rattle.sync_wire.specs.declared.fault.WireFault.TheVariants.{NoMemory}
use Rattle.sync_wire.specs.declared.request.SyncRequest.{SyncRequest}
use Rattle.sync_wire.specs.Canon.{request_bytes}
use Rattle.sync_wire.specs.Laws.{BytesAreRead}
use Rattle.sync_wire.specs.Wire.{IsRequest, IsRequestFault}
use Rattle.std.specs.Prelude.{is_none}
use Rattle.device_sync.specs.Replies.{place_of}
use Rattle.device_sync.specs.Requests.{head_text, request_text}
use Rattle.peer_link.specs.Place.{token, file, group}
use Rattle.peer_link.specs.Asked.{is_for_group, is_no_digit}
use Rattle.peer_link.specs.Peer.{IsOfGroup, AsksGroup}

same_some : {A : Type 0} {a b : A} → Some a ≡ Some b → a ≡ b
same_some e = cc

both : (a b : Bool) → (a && b) ≡ true → (a ≡ true) × (b ≡ true)
both true b e = (refl, e)
both false b e = absurd (cc)

off : (b : Bool) → not b ≡ true → b ≡ false
off true e = absurd (cc)
off false e = refl

some_bytes : (bs : List ℕ) → not (length bs == 0) ≡ true → bs ≢ []
some_bytes [] e = absurd (cc)
some_bytes (b ∷ bs) e = λ no. absurd (cc)

some_byte : (bs : List ℕ) → bs ≢ [] → not (length bs == 0) ≡ true
some_byte [] h = absurd (h refl)
some_byte (b ∷ bs) h = grind (arith, nat_tests)

-- what is for the group and valid is a device's
pub is_of_group : (q : SyncRequest) → is_for_group q ≡ true → AreMessages q.messages → IsOfGroup q
is_of_group q e valid =
    let plain = both (not q.encrypted) (not (length q.since == 0) && (bytes_eq q.file file && bytes_eq q.group group)) e in
    let since = both (not (length q.since == 0)) (bytes_eq q.file file && bytes_eq q.group group) plain.1 in
    let names = both (bytes_eq q.file file) (bytes_eq q.group group) since.1 in
    record {
      device = record { plain = off q.encrypted plain.0; since = some_bytes q.since since.0; valid = valid };
      file_is = (bytes_eq-Decides q.file file).0 names.0;
      group_is = (bytes_eq-Decides q.group group).0 names.1;
    }

pub is_plain : (q : SyncRequest) → is_for_group q ≡ true → q.encrypted ≡ false
is_plain q e = off q.encrypted (both (not q.encrypted) (not (length q.since == 0) && (bytes_eq q.file file && bytes_eq q.group group)) e).0

-- a fault that has a place is no want of memory
pub no_memory : (fault : WireFault) → is_none (place_of fault) ≡ false → fault ≢ NoMemory
no_memory fault e = λ is. absurd (let h : true ≡ false = sym (ap (λ (f : WireFault). is_none (place_of f)) is) ∙ e in cc)

-- ---- where the body of a request begins

is_digit : (c : ℕ) → digit_value c < 10 → is_ascii_digit c ≡ true
is_digit c h = let is = digit_from_value c h in grind (arith, nat_tests)

all_digits : (ds : List ℕ) → AllDigits 10 ds → list_all is_ascii_digit ds ≡ true
all_digits [] h = refl
all_digits (d ∷ ds) h = rw (is_digit d h.0, all_digits ds h.1) refl

count_front : (ds rest : List ℕ) → list_all is_ascii_digit ds ≡ true → position_or_len is_no_digit (ds ++ 13 ∷ rest) ≡ length ds
count_front [] rest h = refl
count_front (d ∷ ds) rest h =
    let parts = both (is_ascii_digit d) (list_all is_ascii_digit ds) h in
    let one : 1 + length ds ≡ length (d ∷ ds) = omega arith in
    ap (λ (b : Bool). cond (not (not b)) (1 + position_or_len is_no_digit (ds ++ 13 ∷ rest)) 0) parts.0 ∙ ap (λ (n : ℕ). 1 + n) (count_front ds rest parts.1) ∙ one

found_front : (ds rest : List ℕ) → list_all is_ascii_digit ds ≡ true → position is_no_digit (ds ++ 13 ∷ rest) ≡ Some (length ds)
found_front ds rest h =
    let more : length ds < length (ds ++ 13 ∷ rest) = omega (arith, length-append ds (13 ∷ rest)) in
    ap (λ (n : ℕ). cond (nat_lt n (length (ds ++ 13 ∷ rest))) (Some n) None) (count_front ds rest h) ∙ ap (λ (b : Bool). cond b (Some (length ds)) None) (lt-ltb (length ds) (length (ds ++ 13 ∷ rest)) more)

dropped : (xs ys : List ℕ) (n : ℕ) → n ≡ length xs → drop n (xs ++ ys) ≡ ys
dropped xs ys n e = drop-append-le n xs ys (omega (arith, e)) ∙ ap (λ (l : List ℕ). l ++ ys) (drop_all n xs (omega (arith, e)))

abbrev front : List ℕ
front = codes "POST /sync/sync HTTP/1.1\r\nHost: localhost\r\nContent-Type: application/actual-sync\r\nX-ACTUAL-TOKEN: local\r\nContent-Length: "

abbrev back : List ℕ
back = codes "\r\nConnection: close\r\n\r\n"

pieces : (size : ℕ) (body : List ℕ) → head_text token size ++ body ≡ front ++ (decimal size ++ (back ++ body))
unfolding head_text
pieces size body = ap (λ (l : List ℕ). front ++ l) (append_assoc (decimal size) back body)

module _ (bytes : List ℕ) (size : ℕ) (body behind : List ℕ) (small : size < 2 ^ 64) (is : bytes ≡ head_text token size ++ body) (there : behind ≡ drop 121 bytes) where
  behind_is : behind ≡ decimal size ++ (back ++ body)
  behind_is = there ∙ ap (drop 121) (is ∙ pieces size body) ∙ dropped front (decimal size ++ (back ++ body)) 121 refl

  found_is : position is_no_digit behind ≡ Some (length (decimal size))
  found_is = ap (position is_no_digit) behind_is ∙ found_front (decimal size) (drop 1 back ++ body) (all_digits (decimal size) (decimal_is_IsNumeral size small).0.1)

  -- behind the head with its length
  pub body_there : (rest last : List ℕ) (count : ℕ) → Some count ≡ position is_no_digit behind → rest ≡ drop count behind → last ≡ drop 23 rest → last ≡ body
  body_there rest last count counted left is_last =
      let count_is : count ≡ length (decimal size) = same_some (counted ∙ found_is) in
      is_last ∙ ap (drop 23) (left ∙ ap (drop count) behind_is ∙ dropped (decimal size) (back ++ body) count count_is) ∙ dropped back body 23 refl

  pub some_there : None ≡ position is_no_digit behind → ⊥
  some_there e = absurd (let h : None ≡ Some (length (decimal size)) = e ∙ found_is in cc)

-- ---- what is no request for the group

-- what is a device's for the group is for the group
for_group : (q : SyncRequest) → IsOfGroup q → is_for_group q ≡ true
for_group q of = rw (of.device.plain, some_byte q.since of.device.since, (bytes_eq-Decides q.file file).1 of.file_is, (bytes_eq-Decides q.group group).1 of.group_is) refl

module _ (law : BytesAreRead) (bytes body : List ℕ) (finds : (size : ℕ) (b : List ℕ) → size < 2 ^ 64 → bytes ≡ head_text token size ++ b → body ≡ b) (small : length bytes < 2 ^ 64) (asks : AsksGroup bytes) where
  its_text : bytes ≡ head_text token (length (request_bytes asks.request)) ++ request_bytes asks.request
  unfolding request_text
  its_text = asks.asked.text

  its_body : body ≡ request_bytes asks.request
  its_body =
      let n = length-append (head_text token (length (request_bytes asks.request))) (request_bytes asks.request) in
      finds (length (request_bytes asks.request)) (request_bytes asks.request) (omega (arith, small, n, ap length its_text)) its_text

  its_meaning : IsRequest body asks.request
  its_meaning = subst (λ (b : List ℕ). IsRequest b asks.request) (sym its_body) asks.asked.means

  pub no_fault : (fault : WireFault) → IsRequestFault body fault → ⊥
  no_fault fault is = (law.requests body).not_both asks.request fault its_meaning is

  same_request : (q : SyncRequest) → IsRequest body q → q ≡ asks.request
  same_request q is = (law.requests body).one_meaning q asks.request is its_meaning

  pub no_other : (q : SyncRequest) → IsRequest body q → is_for_group q ≡ false → ⊥
  no_other q is e =
      let yes : is_for_group q ≡ true = ap is_for_group (same_request q is) ∙ for_group asks.request asks.fits in
      absurd (let no : true ≡ false = sym yes ∙ e in cc)

  pub no_else : (q : SyncRequest) (text : List ℕ) → IsRequest body q → text ≡ request_text token q → bytes_eq text bytes ≡ false → ⊥
  no_else q text is written e =
      let yes : bytes_eq text bytes ≡ true = (bytes_eq-Decides text bytes).1 (written ∙ ap (request_text token) (same_request q is) ∙ sym asks.asked.text) in
      absurd (let no : true ≡ false = sym yes ∙ e in cc)
