-- The first byte that ends a line, found in two ways.
use Rattle.std.proofs.Common.{◌≡◌, ℕ, ◌<◌, List, Bool, true, false, Option, None, Some, length, get_or, refl, arith}
use Rattle.std.specs.List.{position, position_or_len}
use Rattle.std.proofs.lemmas.List.Sums.{position_or_len_is}
use Rattle.std.proofs.lemmas.Grind.{common_steps}
use Rattle.memchr.specs.Find.{IsFirstByte, is_byte}
use Rattle.budget_top.specs.Lines.{is_end}

fails : (b : Bool) → (b ≡ true → ⊥) → b ≡ false
fails true h = absurd (h refl)
fails false h = refl

pub first_place : (bytes : List ℕ) (found : Option ℕ) → IsFirstByte (is_byte 10) bytes found → found ≡ position is_end bytes
first_place bytes None h =
    let at : position_or_len is_end bytes ≡ length bytes =
    position_or_len_is is_end bytes (length bytes) 0 (omega arith) (λ k below. fails (is_end (get_or bytes k 0)) (h k (omega arith) below))
    (λ below. let no : ⊥ = omega arith in absurd no) in
    grind (arith, common_steps)
first_place bytes (Some k) h =
    let inside : k < length bytes = h.0.high in
    let at : position_or_len is_end bytes ≡ k =
    position_or_len_is is_end bytes k 0 (omega arith) (λ j below. fails (is_end (get_or bytes j 0)) (h.0.before j (omega arith) below)) (λ below. h.1) in
    grind (arith, common_steps)
