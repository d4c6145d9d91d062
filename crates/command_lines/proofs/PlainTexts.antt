-- Texts without a line feed.
use Rattle.std.proofs.Common.{◌≡◌, ℕ, zero, suc, ◌+◌, ◌/◌, ◌%◌, Bool, true, false, cond, ◌==◌, eqb, nat_lt, List, [], ◌∷◌, ◌++◌, refl, arith}
use Rattle.std.specs.Prelude.{ℤ, pos, negsuc}
use Rattle.std.specs.List.{list_any}
use Rattle.std.specs.Fmt.{digit_glyph, digits_onto, digits, decimal, signed_decimal}
use Rattle.std.proofs.lemmas.Bool.{ne_eqb, eqb-false, or_parts}
use Rattle.field_merge.proofs.EscapeLemmas.{Lacks, Fails-append}
use Rattle.command_lines.specs.ReplyLines.{IsLine}

-- ---- texts without a line feed, by recursion

abbrev pub Plain : List ℕ → Type 0
Plain text = Lacks 10 text

pub both : (xs ys : List ℕ) → Plain xs → Plain ys → Plain (xs ++ ys)
both xs ys = Fails-append (λ b. b == 10) xs ys

-- a text in which the test finds no line feed has none
pub tested : (text : List ℕ) → list_any (λ b. b == 10) text ≡ false → Plain text
tested [] h = tt
tested (b ∷ bs) h = let parts = or_parts (b == 10) (list_any (λ b. b == 10) bs) h in (parts.0, tested bs parts.1)

pub is_line : (text : List ℕ) → Plain text → IsLine text
is_line [] h k d l = absurd (omega arith)
is_line (b ∷ bs) h zero d l = eqb-false b 10 h.0
is_line (b ∷ bs) h (suc k) d l = is_line bs h.1 k d (omega arith)

pub plain_of : (text : List ℕ) → IsLine text → Plain text
plain_of [] h = tt
plain_of (b ∷ bs) h = (ne_eqb b 10 (h 0 0 (omega arith)), plain_of bs (λ k d l. h (suc k) d (omega arith)))

-- ---- numbers

glyph_plain : (digit : ℕ) (small : Bool) → eqb (cond small (48 + digit) (87 + digit)) 10 ≡ false
glyph_plain digit true = ne_eqb (48 + digit) 10 (λ e. omega (arith, e))
glyph_plain digit false = ne_eqb (87 + digit) 10 (λ e. omega (arith, e))

either : (last : Bool) (here on : List ℕ) → Plain here → Plain on → Plain (cond last here on)
either true here on h k = h
either false here on h k = k

onto_plain : (k n : ℕ) (text : List ℕ) → Plain text → Plain (digits_onto k 10 false n text)
onto_plain zero n text h = h
onto_plain (suc k) n text h =
    let more : List ℕ = digit_glyph false (n % 10) ∷ text in
    let plain : Plain more = (glyph_plain (n % 10) (nat_lt (n % 10) 10), h) in
    either (n / 10 == 0) more (digits_onto k 10 false (n / 10) more) plain (onto_plain k (n / 10) more plain)

pub number_plain : (n : ℕ) → Plain (decimal n)
unfolding digits
number_plain n = onto_plain 64 n [] tt

pub signed_plain : (z : ℤ) → Plain (signed_decimal z)
signed_plain (pos n) = number_plain n
signed_plain (negsuc n) = (refl, number_plain (suc n))
