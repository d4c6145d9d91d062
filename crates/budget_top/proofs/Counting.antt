-- What merging writes and finds for lines that come one after the other.
use Rattle.std.proofs.Common.{◌≡◌, ℕ, ◌+◌, List, [], ◌∷◌, ◌++◌, refl, ap, sym, ◌∙◌, Bool, true, false, ◌||◌, length, arith, append_assoc, append-nil, length-append}
use Rattle.std.proofs.lemmas.List.Concat.{flat_map-append}
use Rattle.std.proofs.lemmas.List.Folds.{list_any-append}
use Rattle.std.specs.Result.{is_err}
use Rattle.budget_top.specs.Verdicts.{judged, bad_line, bad_lines, bad_lines_from, is_bad, some_bad, message_in, messages_of}

bad_lines_from-append : (n : ℕ) (ls ks : List (List ℕ)) → bad_lines_from n (ls ++ ks) ≡ bad_lines_from n ls ++ bad_lines_from (n + length ls) ks
bad_lines_from-append n [] ks = ap (λ k. bad_lines_from k ks) (omega arith)
bad_lines_from-append n (l ∷ ls) ks =
    let next : n + 1 + length ls ≡ n + length (l ∷ ls) = omega arith in
    ap (λ t. bad_line n (judged l) ++ t) (bad_lines_from-append (n + 1) ls ks)
    ∙ ap (λ k. bad_line n (judged l) ++ (bad_lines_from (n + 1) ls ++ bad_lines_from k ks)) next
    ∙ sym (append_assoc (bad_line n (judged l)) (bad_lines_from (n + 1) ls) (bad_lines_from (n + length (l ∷ ls)) ks))

pub bad_lines-append : (ls ks : List (List ℕ)) → bad_lines (ls ++ ks) ≡ bad_lines ls ++ bad_lines_from (1 + length ls) ks
bad_lines-append ls ks = bad_lines_from-append 1 ls ks

-- one line more
pub bad_lines-push : (ls : List (List ℕ)) (l : List ℕ) → bad_lines (ls ++ l ∷ []) ≡ bad_lines ls ++ bad_line (length ls + 1) (judged l)
bad_lines-push ls l =
    let next : 1 + length ls ≡ length ls + 1 = omega arith in
    bad_lines-append ls (l ∷ [])
    ∙ ap (λ t. bad_lines ls ++ t) (append-nil (bad_line (1 + length ls) (judged l)))
    ∙ ap (λ k. bad_lines ls ++ bad_line k (judged l)) next

pub messages-push : (ls : List (List ℕ)) (l : List ℕ) → messages_of (ls ++ l ∷ []) ≡ messages_of ls ++ message_in (judged l)
messages-push ls l = flat_map-append (λ line. message_in (judged line)) ls (l ∷ []) ∙ ap (λ ms. messages_of ls ++ ms) (append-nil (message_in (judged l)))

or_false : (a : Bool) → (a || false) ≡ a
or_false true = refl
or_false false = refl

pub some_bad-push : (ls : List (List ℕ)) (l : List ℕ) → some_bad (ls ++ l ∷ []) ≡ (some_bad ls || is_err (judged l))
some_bad-push ls l = list_any-append is_bad ls (l ∷ []) ∙ ap (λ b. some_bad ls || b) (or_false (is_bad l))

pub length-push : (ls : List (List ℕ)) (l : List ℕ) → length (ls ++ l ∷ []) ≡ length ls + 1
length-push ls l = length-append ls (l ∷ [])
