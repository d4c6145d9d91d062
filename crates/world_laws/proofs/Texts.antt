-- The words of a line of texts, and what each is read as.
use Rattle.std.proofs.Common.{◌≡◌, ℕ, ◌+◌, ◌%◌, ◌^◌, ◌<◌, ◌≤◌, ◌==◌, Bool, true, false, List, [], ◌∷◌, map, slice_get, length, Option, None, Some, Result, Ok, ok_or, refl, sym, ap, ◌∙◌, append-nil, arith}
use Rattle.std.specs.Fmt.{decimal}
use Rattle.std.proofs.lemmas.Bool.Decides.{nat_tests}
use Rattle.std.proofs.lemmas.Fmt.{decimal_by_steps}
use Rattle.field_merge.specs.Escapes.{escaped, bad_escape, is_special}
use Rattle.field_merge.specs.Lines.{parts}
use Rattle.field_merge.specs.Messages.{line_of_texts}
use Rattle.field_merge.proofs.EscapeLemmas.{Fails, Fails-append, escaped-no_tab, escaped-safe, no_special, unescaped-escaped, bad_escape-escaped}
use Rattle.field_merge.proofs.LineLemmas.{parts-none, parts-at}
use Rattle.command_lines.specs.declared.command.CommandFault.{CommandFault}
use Rattle.command_lines.specs.declared.command.CommandFault.TheVariants.{BadCommand}
use Rattle.command_lines.specs.Commands.{longest_line, is_too_long}
use Rattle.command_lines.specs.Forms.{flag_of}
use Rattle.command_lines.specs.Written.{flag_text}
use Rattle.world_lines.specs.Numbers.{number_of}
use Rattle.world_lines.specs.Words.{◌>>=◌, word_at, number_at, long_number_at, flag_at, text_of, text_at}
use Rattle.world_lines.proofs.Digits.{number_back}

pub parts_written : (text : List ℕ) (texts : List (List ℕ)) → parts (line_of_texts (text ∷ texts)) ≡ map escaped (text ∷ texts)
parts_written text [] = parts-none (escaped text) (escaped-no_tab text)
parts_written text (next ∷ texts) =
    parts-at (escaped text) (line_of_texts (next ∷ texts)) (escaped-no_tab text) ∙ ap (λ ps. escaped text ∷ ps) (parts_written next texts)

-- a line of so many bytes is not too long
pub not_long : (line : List ℕ) → length line ≤ longest_line → is_too_long line ≡ false
not_long line short = grind (arith, nat_tests)

-- ---- a word

plain_digit : (d : ℕ) → d < 10 → is_special (48 + d) ≡ false
plain_digit d low =
    let other : ((48 + d) == 92) ≡ false = grind (arith, nat_tests) in
    no_special (48 + d) (omega arith) other

plain_digits : (n : ℕ) → n < 2 ^ 64 → Fails is_special (decimal n)
plain_digits n h =
    decimal_by_steps (λ m ds. Fails is_special ds) (λ m low. (plain_digit m low, tt))
    (λ m ds high before. Fails-append is_special ds ((48 + m % 10) ∷ []) before (plain_digit (m % 10) (omega arith), tt)) n h

-- digits are written as they are
pub digits_stay : (n : ℕ) → n < 2 ^ 64 → escaped (decimal n) ≡ decimal n
digits_stay n h = escaped-safe (decimal n) (plain_digits n h)

number_read : (limit n : ℕ) → limit ≤ 2 ^ 64 → n < limit → number_of limit (escaped (decimal n)) ≡ Some n
number_read limit n small less = number_back limit n (escaped (decimal n)) small less (sym (digits_stay n (omega (arith, small, less))))

flag_read : (b : Bool) → flag_of (escaped (flag_text b)) ≡ Some b
flag_read true = refl
flag_read false = refl

good : (text : List ℕ) → bad_escape (escaped text) ≡ None
good text = ap bad_escape (sym (append-nil (escaped text))) ∙ bad_escape-escaped text [] refl

-- ---- a word at an index

-- what comes next of a value that was read
pub next_of : {A B : Type 0} (r : Result A CommandFault) (a : A) (next : A → Result B CommandFault) → r ≡ Ok a → (r >>= next) ≡ next a
next_of r a next is = ap (λ x. x >>= next) is

word_is : (words : List (List ℕ)) (index : ℕ) (word : List ℕ) → slice_get words index ≡ Some word → word_at words index ≡ Ok word
word_is words index word at = ap (λ (o : Option (List ℕ)). ok_or o (BadCommand index)) at

form_is : {A : Type 0} (words : List (List ℕ)) (index : ℕ) (word : List ℕ) (read : List ℕ → Option A) (a : A) → slice_get words index ≡ Some word → read word ≡ Some a
    → (word_at words index >>= (λ w. ok_or (read w) (BadCommand index))) ≡ Ok a
form_is {A} words index word read a at is =
    next_of (word_at words index) word (λ w. ok_or (read w) (BadCommand index)) (word_is words index word at) ∙ ap (λ (o : Option A). ok_or o (BadCommand index)) is

pub number_is : (words : List (List ℕ)) (index n : ℕ) → slice_get words index ≡ Some (escaped (decimal n)) → n < 2 ^ 32 → number_at words index ≡ Ok n
number_is words index n at less = form_is words index (escaped (decimal n)) (number_of (2 ^ 32)) n at (number_read (2 ^ 32) n (omega arith) less)

pub long_number_is : (words : List (List ℕ)) (index n : ℕ) → slice_get words index ≡ Some (escaped (decimal n)) → n < 2 ^ 64 → long_number_at words index ≡ Ok n
long_number_is words index n at less = form_is words index (escaped (decimal n)) (number_of (2 ^ 64)) n at (number_read (2 ^ 64) n (omega arith) less)

pub flag_is : (words : List (List ℕ)) (index : ℕ) (b : Bool) → slice_get words index ≡ Some (escaped (flag_text b)) → flag_at words index ≡ Ok b
flag_is words index b at = form_is words index (escaped (flag_text b)) flag_of b at (flag_read b)

pub text_is : (words : List (List ℕ)) (index : ℕ) (text : List ℕ) → slice_get words index ≡ Some (escaped text) → text_at words index ≡ Ok text
text_is words index text at =
    next_of (word_at words index) (escaped text) (λ w. text_of index w (bad_escape w)) (word_is words index (escaped text) at)
    ∙ ap (text_of index (escaped text)) (good text)
    ∙ ap (λ (t : List ℕ). Ok t) (unescaped-escaped text)
