-- The text of a summary, cut at its line feeds, and its numbers read back.
use Rattle.std.proofs.Common.{◌≡◌, ◌≢◌, ◌<◌, ◌^◌, ℕ, suc, ℤ, pos, negsuc, List, [], ◌∷◌, ◌++◌, drop, codes, refl, sym, ap, ◌∙◌, arith, subst}
use lib.Signed.{mag}
use Rattle.std.specs.Fmt.{decimal, signed_decimal}
use Rattle.std.specs.Str.Parse.{AllDigits, digits_value}
use Rattle.std.proofs.lemmas.Fmt.{decimal_is_IsNumeral_wide}
use Rattle.std.proofs.lemmas.Str.Parse.{digit_from_value}
use Rattle.minute_trie.specs.Held.{or_zero}
use Rattle.minute_trie.specs.Trie.{trie_of}
use Rattle.kept_messages.specs.Pairs.{pairs_of}
use Rattle.command_lines.proofs.Cutting.{pieces-at}
use Rattle.command_lines.proofs.PlainTexts.{Plain, both, tested, is_line, number_plain, signed_plain}
use Rattle.generated_books.specs.declared.summary.Summary.{Summary}
use Rattle.generated_books.specs.Generated.{generated}
use Rattle.generated_books.specs.Summary.{root_of, december_of, summary_of}
use Rattle.budget_top.specs.Lines.{pieces, all_but_last, last_of}
use Rattle.budget_top.specs.GenerateRun.{summary_text, book_text}
use Rattle.sync_laws.specs.Told.{TellsNumbers, TellsOf, AreTyped, SummariesAreTold}

-- ---- the lines of a summary

abbrev messages_line : ℕ → List ℕ
messages_line n = codes "messages " ++ decimal n

abbrev root_line : ℤ → List ℕ
root_line z = codes "root " ++ signed_decimal z

abbrev budget_line : ℤ → List ℕ
budget_line z = codes "to-budget " ++ signed_decimal z

line_cut : (line rest : List ℕ) → Plain line → pieces (line ++ 10 ∷ rest) ≡ line ∷ pieces rest
line_cut line rest plain = pieces-at 10 line rest (λ i l. is_line line plain i 0 l)

three : (m r b : List ℕ) → Plain m → Plain r → Plain b → pieces (m ++ 10 ∷ (r ++ 10 ∷ (b ++ 10 ∷ []))) ≡ m ∷ r ∷ b ∷ [] ∷ []
three m r b plain_m plain_r plain_b =
    line_cut m (r ++ 10 ∷ (b ++ 10 ∷ [])) plain_m
    ∙ ap (λ (ps : List (List ℕ)). m ∷ ps) (line_cut r (b ++ 10 ∷ []) plain_r ∙ ap (λ (ps : List (List ℕ)). r ∷ ps) (line_cut b [] plain_b))

cut : (s : Summary) → pieces (summary_text s) ≡ messages_line s.messages ∷ root_line s.root ∷ budget_line s.to_budget ∷ [] ∷ []
cut s =
    three (messages_line s.messages) (root_line s.root) (budget_line s.to_budget)
    (both (codes "messages ") (decimal s.messages) (tested (codes "messages ") refl) (number_plain s.messages))
    (both (codes "root ") (signed_decimal s.root) (tested (codes "root ") refl) (signed_plain s.root))
    (both (codes "to-budget ") (signed_decimal s.to_budget) (tested (codes "to-budget ") refl) (signed_plain s.to_budget))

numbers : (s : Summary) → TellsNumbers (summary_text s) s.messages s.root s.to_budget
numbers s = record { lines = ap all_but_last (cut s); no_more = ap last_of (cut s) }

book_told : (count : ℕ) → TellsOf (book_text count) (generated count)
unfolding root_of december_of
book_told count = record {
  hash = or_zero (trie_of (pairs_of (generated count)) []);
  at_root = refl;
  told = numbers (summary_of (generated count));
}

-- ---- numbers with one text are one number

same_decimal : (m n : ℕ) → m < 10 ^ 64 → n < 10 ^ 64 → decimal m ≡ decimal n → m ≡ n
same_decimal m n p q e = sym (decimal_is_IsNumeral_wide m p).1 ∙ ap (digits_value 10) e ∙ (decimal_is_IsNumeral_wide n q).1

no_minus : (n : ℕ) (ds : List ℕ) → n < 10 ^ 64 → decimal n ≢ 45 ∷ ds
no_minus n ds h e = omega (arith, digit_from_value 45 (subst (AllDigits 10) e (decimal_is_IsNumeral_wide n h).0.1).0)

abbrev IsSmall : ℤ → Type 0
IsSmall (pos n) = n < 10 ^ 64
IsSmall (negsuc n) = suc n < 10 ^ 64

same_signed : (y z : ℤ) → IsSmall y → IsSmall z → signed_decimal y ≡ signed_decimal z → y ≡ z
same_signed (pos m) (pos n) p q e = ap pos (same_decimal m n p q e)
same_signed (pos m) (negsuc n) p q e = absurd (no_minus m _ p e)
same_signed (negsuc m) (pos n) p q e = absurd (no_minus n _ q (sym e))
same_signed (negsuc m) (negsuc n) p q e = ap negsuc (omega (arith, same_decimal (suc m) (suc n) p q (ap (drop 1) e)))

small_signed : (w : ℕ) (z : ℤ) → mag z < w → w < 10 ^ 64 → IsSmall z
small_signed w (pos n) p q = omega (arith, p, q)
small_signed w (negsuc n) p q = omega (arith, p, q)

-- ---- a summary from its text

same_summary : (s t : Summary) → s.messages ≡ t.messages → s.root ≡ t.root → s.to_budget ≡ t.to_budget → s ≡ t
same_summary s t p q r = λ i. record { messages = p i; root = q i; to_budget = r i }

apart : (s t : Summary) → AreTyped s → AreTyped t → summary_text s ≡ summary_text t → s ≡ t
apart s t own other e =
    let lines : messages_line s.messages ∷ root_line s.root ∷ budget_line s.to_budget ∷ [] ∷ [] ≡ messages_line t.messages ∷ root_line t.root ∷ budget_line t.to_budget ∷ [] ∷ [] =
    sym (cut s) ∙ ap pieces e ∙ cut t in
    let first : decimal s.messages ≡ decimal t.messages = ap (λ (ls : List (List ℕ)). drop 9 (first_of ls)) lines in
    let second : signed_decimal s.root ≡ signed_decimal t.root = ap (λ (ls : List (List ℕ)). drop 5 (first_of (drop 1 ls))) lines in
    let third : signed_decimal s.to_budget ≡ signed_decimal t.to_budget = ap (λ (ls : List (List ℕ)). drop 10 (first_of (drop 2 ls))) lines in
    same_summary s t
    (same_decimal s.messages t.messages (omega (arith, own.messages)) (omega (arith, other.messages)) first)
    (same_signed s.root t.root (small_signed (2 ^ 31) s.root own.root.sfits (omega arith)) (small_signed (2 ^ 31) t.root other.root.sfits (omega arith)) second)
    (same_signed s.to_budget t.to_budget (small_signed (2 ^ 127) s.to_budget own.to_budget.sfits (omega arith)) (small_signed (2 ^ 127) t.to_budget other.to_budget.sfits (omega arith)) third)
  where
    first_of : List (List ℕ) → List ℕ
    first_of [] = []
    first_of (l ∷ ls) = l

pub told_all : SummariesAreTold
told_all = record {
  books = book_told;
  runs = λ count taken new_taken run. (book_text count, run.all_written refl, book_told count);
  apart = apart;
}
