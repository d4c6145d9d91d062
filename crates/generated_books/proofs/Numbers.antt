-- The generated messages by their numbers.
use Rattle.std.proofs.Common.{◌≡◌, ℕ, zero, suc, ◌+◌, ◌-◌, ◌*◌, ◌/◌, ◌%◌, ◌<◌, ◌≤◌, Bool, true, false, cond, List, [], ◌∷◌, ◌++◌, length, map, get_or, refl, sym, ap, ◌∙◌, subst, arith}
use Rattle.std.specs.Prelude.{nat_lt, codes}
use Rattle.std.specs.List.{range_with_len}
use Rattle.std.proofs.lemmas.Bool.Decides.{nat_tests}
use Rattle.std.proofs.lemmas.List.FromFn.{length-map-range_with_len, get_or-map-range_with_len}
use Rattle.field_merge.specs.declared.message.Message.{Message}
use Rattle.generated_books.specs.Generated.{Content, text, category, beginnings, transaction, contents, message, numbered, generated}
use Rattle.generated_books.specs.Numbers.{count_of, no_content, content_at, message_at, messages_at, messages_from}
use Rattle.generated_books.proofs.Ranges.{split}

-- what a message of a transaction writes
pub content_in : (k i j : ℕ) → j ≡ (15 + 4 * k) + i → i < 4 → content_at j ≡ get_or (transaction k) i no_content
unfolding content_at
content_in k i j e low =
    let far : nat_lt j 15 ≡ false = grind (arith, nat_tests) in
    let which : (j - 15) / 4 ≡ k = omega arith in
    let part : (j - 15) % 4 ≡ i = omega arith in
    ap (λ b. cond b (get_or beginnings j no_content) (get_or (transaction ((j - 15) / 4)) ((j - 15) % 4) no_content)) far
    ∙ ap (λ (x : ℕ). get_or (transaction x) ((j - 15) % 4) no_content) which ∙ ap (λ (x : ℕ). get_or (transaction k) x no_content) part

-- and one before all transactions
pub content_before : (j : ℕ) → j < 15 → content_at j ≡ get_or beginnings j no_content
unfolding content_at
content_before j low =
    let near : nat_lt j 15 ≡ true = grind (arith, nat_tests) in
    ap (λ b. cond b (get_or beginnings j no_content) (get_or (transaction ((j - 15) / 4)) ((j - 15) % 4) no_content)) near

-- and one of a transaction, by its number alone
pub content_after : (j : ℕ) → 15 ≤ j → content_at j ≡ get_or (transaction ((j - 15) / 4)) ((j - 15) % 4) no_content
content_after j high = content_in ((j - 15) / 4) ((j - 15) % 4) j (omega arith) (omega arith)

-- the last ten of those before all transactions put the categories into their group
pub late_beginning : (j : ℕ) → 5 ≤ j → j < 15 → get_or beginnings j no_content ≡ text (codes "categories") (category (j - 5)) (codes "cat_group") (codes "g")
unfolding beginnings
late_beginning j high low =
    let place : j ≡ suc (suc (suc (suc (suc (j - 5))))) = omega arith in
    let f : ℕ → Content = λ digit. text (codes "categories") (category digit) (codes "cat_group") (codes "g") in
    ap (λ (k : ℕ). get_or beginnings k no_content) place ∙ get_or-map-range_with_len f 0 10 (j - 5) (j - 5) no_content (omega arith) (omega arith)

-- the four messages of a transaction
four : (k m : ℕ) → 15 + 4 * k ≡ m → map content_at (range_with_len m 4) ≡ transaction k
unfolding transaction
four k m e =
    let a : content_at m ≡ get_or (transaction k) 0 no_content = content_in k 0 m (omega arith) (omega arith) in
    let b : content_at (m + 1) ≡ get_or (transaction k) 1 no_content = content_in k 1 (m + 1) (omega arith) (omega arith) in
    let c : content_at ((m + 1) + 1) ≡ get_or (transaction k) 2 no_content = content_in k 2 ((m + 1) + 1) (omega arith) (omega arith) in
    let d : content_at (((m + 1) + 1) + 1) ≡ get_or (transaction k) 3 no_content = content_in k 3 (((m + 1) + 1) + 1) (omega arith) (omega arith) in
    λ j. a j ∷ b j ∷ c j ∷ d j ∷ []

begun : beginnings ≡ map content_at (range_with_len 0 15)
unfolding beginnings content_at
begun = refl

contents_numbered : (n : ℕ) → contents n ≡ map content_at (range_with_len 0 (count_of n))
unfolding contents
contents_numbered zero = begun
contents_numbered (suc n) =
    let more : count_of (suc n) ≡ count_of n + 4 = omega arith in
    ap (λ (cs : List Content). cs ++ transaction n) (contents_numbered n)
    ∙ ap (λ (cs : List Content). map content_at (range_with_len 0 (count_of n)) ++ cs) (sym (four n (0 + count_of n) (omega arith)))
    ∙ sym (split content_at 0 (count_of n) 4 (0 + count_of n) refl)
    ∙ ap (λ (l : ℕ). map content_at (range_with_len 0 l)) (sym more)

numbered_in : (f : ℕ → Content) (a n : ℕ) → numbered a (map f (range_with_len a n)) ≡ map (λ j. message j (f j)) (range_with_len a n)
numbered_in f a zero = refl
numbered_in f a (suc n) = ap (λ (ms : List Message). message a (f a) ∷ ms) (numbered_in f (a + 1) n)

pub generated_numbered : (n : ℕ) → generated n ≡ messages_at 0 (count_of n)
unfolding generated message_at
generated_numbered n = ap (numbered 0) (contents_numbered n) ∙ numbered_in content_at 0 (count_of n)

pub all_from_first : (n : ℕ) → messages_from 0 n ≡ generated n
all_from_first n =
    let same : count_of n - 0 ≡ count_of n = omega arith in
    ap (messages_at 0) same ∙ sym (generated_numbered n)

pub count_is : (n : ℕ) → length (generated n) ≡ 15 + 4 * n
count_is n = ap length (generated_numbered n) ∙ length-map-range_with_len message_at 0 (count_of n)
