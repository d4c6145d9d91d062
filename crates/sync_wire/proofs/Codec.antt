-- Fields that are written are read.
use Rattle.std.proofs.Common.{◌≡◌, ℕ, zero, suc, ◌+◌, ◌-◌, ◌*◌, ◌/◌, ◌%◌, ◌^◌, ◌<◌, ◌≤◌, Bool, true, false, cond, eqb, List, [], ◌∷◌, ◌++◌, length, Option, Some, None, Result, Ok, IsUtf8, refl, sym, subst, ◌∙◌, length-append, arith, inl, inr}
use Rattle.std.proofs.lemmas.Bool.{cases_lt, lt-ltb, le-ltb}
use Rattle.std.proofs.Math.Nat.{pow-succ'}
use Rattle.std.proofs.lemmas.Str.{IsUtf8-from_ascii}
use Rattle.std.proofs.lemmas.Str.Ascii.{IsAscii-nil}
use Rattle.std.specs.Str.Lossy.{utf8_valid_len}
use Rattle.sync_wire.specs.declared.fault.WireFault.{WireFault}
use Rattle.sync_wire.specs.declared.layout.Layout.{Layout}
use Rattle.sync_wire.specs.Reading.{◌>>=◌, answer}
use Rattle.sync_wire.specs.Layouts.{allows}
use Rattle.sync_wire.specs.Fields.{Tagged, Bytes}
use Rattle.sync_wire.specs.Meaning.{steps_within, text_fault}
use Rattle.sync_wire.specs.Spelling.{Spells, IsNumber, IsField}
use Rattle.sync_wire.specs.Canon.{number_within, number_bytes, bytes_field, text_field}
use Rattle.sync_wire.proofs.Texts.{no_fault}
use Rattle.sync_wire.proofs.Spelled.{field_again}
use Rattle.sync_wire.proofs.Steps.{field_some}
use Rattle.sync_wire.proofs.Gather.{gather, one_step, IsOn, goes_on}

within_spells : (k n : ℕ) → n < 128 ^ suc k → Spells (number_within k n) n × (length (number_within k n) ≤ suc k)
unfolding number_within
within_spells zero n h = (inl (omega (arith, pow-succ' 128 0, h), refl, refl), omega arith)
within_spells (suc k) n h =
    elim (cases_lt n 128) [
      | inl lt ↦ rw (lt-ltb n 128 lt) ((inl (lt, refl, refl), omega arith))
      | inr ge ↦
          let smaller : n / 128 < 128 ^ suc k = omega (arith, pow-succ' 128 (suc k)) in
          let deep = within_spells k (n / 128) smaller in
          let short = deep.1 in
          let high : 128 ≤ n % 128 + 128 = omega arith in
          let split : n ≡ n % 128 + 128 - 128 + 128 * (n / 128) = omega arith in
          rw (le-ltb n 128 ge) ((inr (n / 128, high, split, deep.0), omega arith))
    ]

pub number_is : (n : ℕ) → n < 2 ^ 64 → IsNumber (number_bytes n) n
unfolding number_bytes
number_is n h =
    let s = within_spells 9 n (omega arith) in
    record { spells = s.0; short = s.1; fits = h }

-- a field that holds bytes
abbrev pub held : ℕ → ℕ → List ℕ → Tagged
held number place bytes = record { number = number; payload = Bytes place bytes }

pub bytes_field_is : (layout : Layout) (number place : ℕ) (bytes : List ℕ) → number < 1000 → allows layout number 2 ≡ true → length bytes < 2 ^ 64 → IsField layout (bytes_field number bytes) place (held number place bytes)
unfolding bytes_field
bytes_field_is layout number place bytes small allowed fits = record {
  tag = number_bytes (8 * number + 2);
  body = number_bytes (length bytes) ++ bytes;
  kind = 2;
  whole = refl;
  tagged = number_is (8 * number + 2) (omega arith);
  small = omega arith;
  allowed = allowed;
  holds = (number_bytes (length bytes), refl, refl, number_is (length bytes) fits, refl);
}

pub bytes_field_len : (number : ℕ) (bytes : List ℕ) → length bytes ≤ length (bytes_field number bytes)
unfolding bytes_field
bytes_field_len number bytes = omega (arith, length-append (number_bytes (8 * number + 2)) (number_bytes (length bytes) ++ bytes), length-append (number_bytes (length bytes)) bytes)

-- one field more is read
pub passes : {X : Type 0} (check : Tagged → Option WireFault) (with : X → Tagged → X) (layout : Layout) (end : ℕ) (x : X) (text rest : List ℕ) (total : Result X WireFault) (t : Tagged)
    → IsField layout text (end - length rest) t → check t ≡ None → IsOn check with layout end x (text ++ rest) total → IsOn check with layout end (with x t) rest total
passes check with layout end x text rest total t field faultless on =
    let some = field_some layout text _ t field in
    let len = length-append text rest in
    let taken : answer (check t) (with x t) ≡ Ok (with x t) = rw faultless refl in
    goes_on check with layout end x (text ++ rest) total t rest (with x t) on (omega arith) (field_again layout end text rest t field) (omega arith) taken

-- ---- where all is read, no field has a fault

answer_taken : {X : Type 0} (o : Option WireFault) (y z : X) (next : X → Result X WireFault) → (answer o y >>= next) ≡ Ok z → o ≡ None
answer_taken None y z next e = refl
answer_taken (Some f) y z next e = absurd cc

pub taken : {X : Type 0} (check : Tagged → Option WireFault) (with : X → Tagged → X) (layout : Layout) (end : ℕ) (x z : X) (text rest : List ℕ) (total : Result X WireFault) (t : Tagged)
    → IsField layout text (end - length rest) t → total ≡ Ok z → IsOn check with layout end x (text ++ rest) total → check t ≡ None
taken check with layout end x z text rest total t field ok on =
    let some = field_some layout text _ t field in
    let len = length-append text rest in
    let s = one_step layout end on.fuel (text ++ rest) (omega arith) on.enough in
    let shown : (answer (check t) (with x t) >>= λ y. gather check with y (steps_within layout end s.0 rest)) ≡ total = sym (rw (s.2, field_again layout end text rest t field) refl) ∙ on.same in
    answer_taken (check t) (with x t) z (λ y. gather check with y (steps_within layout end s.0 rest)) (shown ∙ ok)

-- ---- texts

-- the check of a field of this number is that of its text
abbrev pub Checks : (Tagged → Option WireFault) → ℕ → List ℕ → Type 0
Checks check number text = (place : ℕ) → check (held number place text) ≡ text_fault place text

-- the text has no fault, where it stands next
abbrev pub Fine : {X : Type 0} → (Tagged → Option WireFault) → (X → Tagged → X) → Layout → ℕ → Result X WireFault → List ℕ → Type 0
Fine {X} check with layout end total text = (number : ℕ) (x : X) (rest : List ℕ) → number < 1000 → allows layout number 2 ≡ true → Checks check number text
    → IsOn check with layout end x (text_field number text ++ rest) total → (place : ℕ) → text_fault place text ≡ None

pub fine_of_utf8 : {X : Type 0} (check : Tagged → Option WireFault) (with : X → Tagged → X) (layout : Layout) (end : ℕ) (total : Result X WireFault) (text : List ℕ)
    → IsUtf8 text → Fine check with layout end total text
fine_of_utf8 check with layout end total text u number x rest small allowed checks on place = no_fault place text u

fault_anywhere : (b : Bool) (f g : WireFault) → cond b None (Some f) ≡ None → cond b None (Some g) ≡ None
fault_anywhere true f g e = refl
fault_anywhere false f g e = absurd cc

elsewhere : (p q : ℕ) (text : List ℕ) → text_fault p text ≡ None → text_fault q text ≡ None
elsewhere p q text e = fault_anywhere (eqb (utf8_valid_len text) (length text)) _ _ e

pub fine_of_ok : {X : Type 0} (check : Tagged → Option WireFault) (with : X → Tagged → X) (layout : Layout) (end : ℕ) (total : Result X WireFault) (text : List ℕ) (z : X)
    → end < 2 ^ 64 → total ≡ Ok z → Fine check with layout end total text
fine_of_ok check with layout end total [] z wide ok number x rest small allowed checks on place = no_fault place [] (IsUtf8-from_ascii [] IsAscii-nil)
fine_of_ok check with layout end total (b ∷ bs) z wide ok number x rest small allowed checks on place =
    let placed = on.placed in
    let inner = bytes_field_len number (b ∷ bs) in
    let len = length-append (bytes_field number (b ∷ bs)) rest in
    let fits : length (b ∷ bs) < 2 ^ 64 = omega arith in
    let at = end - length rest in
    let none = taken check with layout end x z (bytes_field number (b ∷ bs)) rest total (held number at (b ∷ bs)) (bytes_field_is layout number at (b ∷ bs) small allowed fits) ok on in
    elsewhere at place (b ∷ bs) (sym (checks at) ∙ none)

-- one text more is read
pub text_passes : {X : Type 0} (check : Tagged → Option WireFault) (with : X → Tagged → X) (layout : Layout) (end : ℕ) (x y : X) (number : ℕ) (text rest : List ℕ) (total : Result X WireFault)
    → end < 2 ^ 64 → number < 1000 → allows layout number 2 ≡ true → Checks check number text → Fine check with layout end total text
    → (text ≡ [] → x ≡ y) → (with x (held number (end - length rest) text) ≡ y)
    → IsOn check with layout end x (text_field number text ++ rest) total → IsOn check with layout end y rest total
text_passes check with layout end x y number [] rest total wide small allowed checks fine none some on = subst (λ z. IsOn check with layout end z rest total) (none refl) on
text_passes check with layout end x y number (b ∷ bs) rest total wide small allowed checks fine none some on =
    let placed = on.placed in
    let inner = bytes_field_len number (b ∷ bs) in
    let len = length-append (bytes_field number (b ∷ bs)) rest in
    let fits : length (b ∷ bs) < 2 ^ 64 = omega arith in
    let at = end - length rest in
    subst (λ z. IsOn check with layout end z rest total) some
    (passes check with layout end x (bytes_field number (b ∷ bs)) rest total (held number at (b ∷ bs))
    (bytes_field_is layout number at (b ∷ bs) small allowed fits)
    (checks at ∙ fine number x rest small allowed checks on at) on)
