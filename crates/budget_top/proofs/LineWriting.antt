-- The lines are those that are written.
use Rattle.std.proofs.Common.{◌≡◌, ◌≢◌, ℕ, suc, ◌+◌, ◌&&◌, ◌||◌, ◌==◌, List, [], ◌∷◌, ◌++◌, take, drop, Bool, true, false, not, cond, Option, Some, None, refl, sym, ap, ◌∙◌, true≢false, unwrap_or, subst, add-one, codes, arith}
use Rattle.std.specs.Prelude.{if◌then◌else◌, bytes_eq}
use Rattle.std.specs.List.{list_any, before_first, after_first, position_or_len}
use Rattle.std.proofs.lemmas.Slice.Eq.{bytes_eq-Decides}
use Rattle.budget_top.specs.Line.{Pair, Look, dashes, long, short, plain, look, look_short, look_long, is_equals, Place, anywhere, value_of, after_dashes, pair_then, part, parts, option_names, is_option, mode, each_once, is_line, line_of}
use Rattle.budget_top.specs.Written as written
use Rattle.budget_top.specs.Written.{IsWritten, LinesAreWritten}
use Rattle.budget_top.proofs.Hyphens.{never_two}

Text : Type 0
Text = List ℕ

same_number : (x y : ℕ) → (x == y) ≡ true → x ≡ y
same_number x y e = grind arith

-- ---- what the written words look like

abbrev Holds : (List ℕ → Type 0) → List (List ℕ) → Type 0
Holds P [] = Unit {0}
Holds P (n ∷ ns) = P n × Holds P ns

step_of : (P : List ℕ → Type 0) (n : List ℕ) (name : List ℕ) (ns : List (List ℕ)) (b : Bool) → bytes_eq n name ≡ b → P n → (b || list_any (λ o. bytes_eq o name) ns) ≡ true
    → (list_any (λ o. bytes_eq o name) ns ≡ true → P name) → P name
step_of P n name ns true e here h later = subst P ((bytes_eq-Decides n name).0 e) here
step_of P n name ns false e here h later = later h

any_of : (P : List ℕ → Type 0) (ns : List (List ℕ)) (name : List ℕ) → Holds P ns → list_any (λ o. bytes_eq o name) ns ≡ true → P name
any_of P [] name all h = absurd (true≢false (sym h))
any_of P (n ∷ ns) name all h = step_of P n name ns (bytes_eq n name) refl all.0 h (any_of P ns name all.1)

look_joined : (name value : List ℕ) → is_option name ≡ true → look (codes "--" ++ name ++ 61 ∷ value) ≡ long name (Some value)
look_joined name value h = any_of (λ n. look (codes "--" ++ n ++ 61 ∷ value) ≡ long n (Some value)) option_names name (refl, (refl, (refl, (refl, (refl, (refl, (refl, (refl, tt)))))))) h

look_apart : (name : List ℕ) → is_option name ≡ true → look (codes "--" ++ name) ≡ long name None
look_apart name h = any_of (λ n. look (codes "--" ++ n) ≡ long n None) option_names name (refl, (refl, (refl, (refl, (refl, (refl, (refl, (refl, tt)))))))) h

not_hyphen : (value : List ℕ) (b : Bool) → bytes_eq value (codes "-") ≡ b → value ≢ codes "-" → b ≡ false
not_hyphen value true e h = absurd (h ((bytes_eq-Decides value (codes "-")).0 e))
not_hyphen value false e h = refl

abbrev Next : List (List ℕ) → Place → Option (List Pair)
Next words place = parts place words

pub read_back : (pairs : List Pair) (words : List (List ℕ)) → IsWritten pairs words → parts anywhere words ≡ Some pairs
read_back pairs words written.nothing = refl
read_back pairs words written.dashes = refl
read_back pairs words (written.last_word text) = refl
read_back pairs words (written.word text more rest shape h) =
    ap (λ l. part anywhere l text (Next rest)) shape ∙ ap (pair_then (mode, text)) (read_back more rest h)
read_back pairs words (written.joined name value more rest known h) =
    ap (λ l. part anywhere l (codes "--" ++ name ++ 61 ∷ value) (Next rest)) (look_joined name value known)
    ∙ ap (λ b. if b then pair_then (name, value) (parts anywhere rest) else None) known ∙ ap (pair_then (name, value)) (read_back more rest h)
read_back pairs words (written.apart name value more rest known shape plainly h) =
    ap (λ l. part anywhere l (codes "--" ++ name) (Next (value ∷ rest))) (look_apart name known)
    ∙ ap (λ b. if b then parts (value_of name) (value ∷ rest) else None) known
    ∙ ap (λ l. part (value_of name) l value (Next rest)) shape
    ∙ ap (λ b. if b then None else pair_then (name, value) (parts anywhere rest)) (not_hyphen value _ refl plainly) ∙ ap (pair_then (name, value)) (read_back more rest h)

-- ---- what the words are, by their looks

cut_at : (x : ℕ) (xs : List ℕ) (n a b : ℕ) → a ≡ suc n → b ≡ suc (suc n) → take n xs ++ 61 ∷ drop (suc n) xs ≡ xs → take a (x ∷ xs) ++ 61 ∷ drop b (x ∷ xs) ≡ x ∷ xs
cut_at x xs n a b e f h = rw (e, f) (ap (λ ys. x ∷ ys) h)

cut_later : (x : ℕ) (xs : List ℕ) (n : ℕ) → take n xs ++ 61 ∷ drop (n + 1) xs ≡ xs → take (1 + n) (x ∷ xs) ++ 61 ∷ drop (1 + n + 1) (x ∷ xs) ≡ x ∷ xs
cut_later x xs n h = cut_at x xs n (1 + n) (1 + n + 1) (omega arith) (omega arith) (rw add-one at h)

cut_step : (x : ℕ) (xs : List ℕ) (b : Bool) → (x == 61) ≡ b → (b || list_any is_equals xs) ≡ true
    → (list_any is_equals xs ≡ true → before_first is_equals xs ++ 61 ∷ after_first is_equals xs ≡ xs)
    → take (cond (not b) (1 + position_or_len is_equals xs) 0) (x ∷ xs) ++ 61 ∷ drop (cond (not b) (1 + position_or_len is_equals xs) 0 + 1) (x ∷ xs) ≡ x ∷ xs
cut_step x xs true e h later = ap (λ y. y ∷ xs) (sym (same_number x 61 e))
cut_step x xs false e h later = cut_later x xs (position_or_len is_equals xs) (later h)

cut : (text : List ℕ) → list_any is_equals text ≡ true → before_first is_equals text ++ 61 ∷ after_first is_equals text ≡ text
cut [] h = absurd (true≢false (sym h))
cut (x ∷ xs) h = cut_step x xs (x == 61) refl h (cut xs)

whole_at : (x : ℕ) (xs : List ℕ) (n a : ℕ) → a ≡ suc n → take n xs ≡ xs → take a (x ∷ xs) ≡ x ∷ xs
whole_at x xs n a e h = rw e (ap (λ ys. x ∷ ys) h)

whole_step : (x : ℕ) (xs : List ℕ) (b : Bool) → (b || list_any is_equals xs) ≡ false → (list_any is_equals xs ≡ false → before_first is_equals xs ≡ xs)
    → take (cond (not b) (1 + position_or_len is_equals xs) 0) (x ∷ xs) ≡ x ∷ xs
whole_step x xs true h later = absurd (true≢false h)
whole_step x xs false h later = whole_at x xs (position_or_len is_equals xs) (1 + position_or_len is_equals xs) (omega arith) (later h)

whole : (text : List ℕ) → list_any is_equals text ≡ false → before_first is_equals text ≡ text
whole [] h = refl
whole (x ∷ xs) h = whole_step x xs (x == 61) h (whole xs)

abbrev IsLooked : Look → List ℕ → Type 0
IsLooked dashes text = text ≡ codes "--"
IsLooked (long name (Some value)) text = text ≡ codes "--" ++ name ++ 61 ∷ value
IsLooked (long name None) text = text ≡ codes "--" ++ name
IsLooked short text = Unit {0}
IsLooked plain text = Unit {0}

looked_value : (rest : List ℕ) (b : Bool) → list_any is_equals rest ≡ b → IsLooked (long (before_first is_equals rest) (cond b (Some (after_first is_equals rest)) None)) (45 ∷ 45 ∷ rest)
looked_value rest true e = ap (λ t. 45 ∷ 45 ∷ t) (sym (cut rest e))
looked_value rest false e = ap (λ t. 45 ∷ 45 ∷ t) (sym (whole rest e))

looked_long : (rest : List ℕ) → IsLooked (look_long rest) (45 ∷ 45 ∷ rest)
looked_long [] = refl
looked_long (x ∷ xs) = looked_value (x ∷ xs) (list_any is_equals (x ∷ xs)) refl

looked_second : (x : ℕ) (xs : List ℕ) (b : Bool) → (x == 45) ≡ b → IsLooked (cond b (look_long xs) short) (45 ∷ x ∷ xs)
looked_second x xs true e = subst (λ y. IsLooked (look_long xs) (45 ∷ y ∷ xs)) (sym (same_number x 45 e)) (looked_long xs)
looked_second x xs false e = tt

looked_short : (rest : List ℕ) → IsLooked (look_short rest) (45 ∷ rest)
looked_short [] = tt
looked_short (x ∷ xs) = looked_second x xs (x == 45) refl

looked_first : (x : ℕ) (xs : List ℕ) (b : Bool) → (x == 45) ≡ b → IsLooked (cond b (look_short xs) plain) (x ∷ xs)
looked_first x xs true e = subst (λ y. IsLooked (look_short xs) (y ∷ xs)) (sym (same_number x 45 e)) (looked_short xs)
looked_first x xs false e = tt

looked : (text : List ℕ) → IsLooked (look text) text
looked [] = tt
looked (x ∷ xs) = looked_first x xs (x == 45) refl

-- ---- each line is written

second_true : (a b : Bool) → (a && b) ≡ true → b ≡ true
second_true true b h = h
second_true false b h = absurd (true≢false (sym h))

-- a pair before others, where these are written
with_pair : (W : List Pair → Type 0) (pair : Pair) (o : Option (List Pair)) → ((more : List Pair) → o ≡ Some more → each_once more ≡ true → W (pair ∷ more))
    → (pairs : List Pair) → pair_then pair o ≡ Some pairs → each_once pairs ≡ true → W pairs
with_pair W pair None h pairs e once = absurd (let bad : None ≡ Some pairs = e in cc)
with_pair W pair (Some more) h pairs e once =
    let is : pair ∷ more ≡ pairs = ap (λ o. unwrap_or o pairs) e in
    subst W is (h more refl (second_true _ _ (ap each_once is ∙ once)))

if_some : (b : Bool) (o : Option (List Pair)) (pairs : List Pair) → (if b then o else None) ≡ Some pairs → (b ≡ true) × (o ≡ Some pairs)
if_some true o pairs e = (refl, e)
if_some false o pairs e = absurd (let bad : None ≡ Some pairs = e in cc)

unless_some : (b : Bool) (o : Option (List Pair)) (pairs : List Pair) → (if b then None else o) ≡ Some pairs → (b ≡ false) × (o ≡ Some pairs)
unless_some true o pairs e = absurd (let bad : None ≡ Some pairs = e in cc)
unless_some false o pairs e = (refl, e)

record Writes (words : List (List ℕ)) : Type 0 where
  anywhere : (pairs : List Pair) → parts anywhere words ≡ Some pairs → each_once pairs ≡ true → IsWritten pairs words
  value : (name : List ℕ) (pairs : List Pair) → is_option name ≡ true → parts (value_of name) words ≡ Some pairs → each_once pairs ≡ true → IsWritten pairs ((codes "--" ++ name) ∷ words)
  after : (pairs : List Pair) → parts after_dashes words ≡ Some pairs → each_once pairs ≡ true → IsWritten pairs (codes "--" ∷ words)

writes_anywhere : (text : List ℕ) (words : List (List ℕ)) → Writes words → (shape : Look) → look text ≡ shape → IsLooked shape text
    → (pairs : List Pair) → part anywhere shape text (Next words) ≡ Some pairs → each_once pairs ≡ true → IsWritten pairs (text ∷ words)
writes_anywhere text words later dashes e is pairs h once = subst (λ t. IsWritten pairs (t ∷ words)) (sym is) (later.after pairs h once)
writes_anywhere text words later (long name (Some value)) e is pairs h once =
    let both = if_some (is_option name) (pair_then (name, value) (parts anywhere words)) pairs h in
    subst (λ t. IsWritten pairs (t ∷ words)) (sym is)
    (with_pair (λ ps. IsWritten ps ((codes "--" ++ name ++ 61 ∷ value) ∷ words)) (name, value) (parts anywhere words)
    (λ more is once. written.joined name value more words both.0 (later.anywhere more is once)) pairs both.1 once)
writes_anywhere text words later (long name None) e is pairs h once =
    let both = if_some (is_option name) (parts (value_of name) words) pairs h in
    subst (λ t. IsWritten pairs (t ∷ words)) (sym is) (later.value name pairs both.0 both.1 once)
writes_anywhere text words later short e is pairs h once = absurd (let bad : None ≡ Some pairs = h in cc)
writes_anywhere text words later plain e is pairs h once =
    with_pair (λ ps. IsWritten ps (text ∷ words)) (mode, text) (parts anywhere words) (λ more is once. written.word text more words e (later.anywhere more is once)) pairs h once

is_hyphen : (value : List ℕ) → bytes_eq value (codes "-") ≡ false → value ≢ codes "-"
is_hyphen value e is = true≢false (sym ((bytes_eq-Decides value (codes "-")).1 is) ∙ e)

writes_value : (name text : List ℕ) (words : List (List ℕ)) → Writes words → is_option name ≡ true → (shape : Look) → look text ≡ shape
    → (pairs : List Pair) → part (value_of name) shape text (Next words) ≡ Some pairs → each_once pairs ≡ true → IsWritten pairs ((codes "--" ++ name) ∷ text ∷ words)
writes_value name text words later known dashes e pairs h once = absurd (let bad : None ≡ Some pairs = h in cc)
writes_value name text words later known (long other value) e pairs h once = absurd (let bad : None ≡ Some pairs = h in cc)
writes_value name text words later known short e pairs h once = absurd (let bad : None ≡ Some pairs = h in cc)
writes_value name text words later known plain e pairs h once =
    let both = unless_some (bytes_eq text (codes "-")) (pair_then (name, text) (parts anywhere words)) pairs h in
    with_pair (λ ps. IsWritten ps ((codes "--" ++ name) ∷ text ∷ words)) (name, text) (parts anywhere words)
    (λ more is once. written.apart name text more words known e (is_hyphen text both.0) (later.anywhere more is once)) pairs both.1 once

writes_after : (text : List ℕ) (words : List (List ℕ)) (pairs : List Pair) → pair_then (mode, text) (parts after_dashes words) ≡ Some pairs → each_once pairs ≡ true → IsWritten pairs (codes "--" ∷ text ∷ words)
writes_after text [] pairs h once =
    let is : (mode, text) ∷ [] ≡ pairs = ap (λ o. unwrap_or o pairs) h in
    subst (λ ps. IsWritten ps (codes "--" ∷ text ∷ [])) is (written.last_word text)
writes_after text (next ∷ words) pairs h once = absurd (true≢false (sym once ∙ never_two text next (parts after_dashes words) pairs h))

none_left : (W : List Pair → Type 0) (pairs : List Pair) → W [] → Some [] ≡ Some pairs → W pairs
none_left W pairs h e = subst W (ap (λ o. unwrap_or o pairs) e) h

writes : (words : List (List ℕ)) → Writes words
writes [] = record {
  anywhere = λ pairs h once. none_left (λ ps. IsWritten ps []) pairs written.nothing h;
  value = λ name pairs known h once. absurd (let bad : None ≡ Some pairs = h in cc);
  after = λ pairs h once. none_left (λ ps. IsWritten ps (codes "--" ∷ [])) pairs written.dashes h;
}
writes (text ∷ words) =
    let later = writes words in
    record {
      anywhere = λ pairs h once. writes_anywhere text words later (look text) refl (looked text) pairs h once;
      value = λ name pairs known h once. writes_value name text words later known (look text) refl pairs h once;
      after = λ pairs h once. writes_after text words pairs h once;
    }

line_some : (o : Option (List Pair)) (pairs : List Pair) → line_of o ≡ Some pairs → (is_line pairs ≡ true) × (o ≡ Some pairs)
line_some None pairs e = absurd (let bad : None ≡ Some pairs = e in cc)
line_some (Some ps) pairs e = at_test (is_line ps) refl e
  where
    at_test : (b : Bool) → is_line ps ≡ b → (if b then Some ps else None) ≡ Some pairs → (is_line pairs ≡ true) × (Some ps ≡ Some pairs)
    at_test true is e = (ap is_line (sym (ap (λ o. unwrap_or o pairs) e)) ∙ is, e)
    at_test false is e = absurd (let bad : None ≡ Some pairs = e in cc)

first_true : (a b : Bool) → (a && b) ≡ true → a ≡ true
first_true true b h = refl
first_true false b h = h

pub as_written : LinesAreWritten
as_written words pairs = (
  λ e. let both = line_some (parts anywhere words) pairs e in (both.0, (writes words).anywhere pairs both.1 (first_true _ _ both.0)),
  λ h. ap line_of (read_back pairs words h.1) ∙ ap (λ b. if b then Some pairs else None) h.0,
)
