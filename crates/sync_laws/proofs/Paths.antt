-- Where a path ends, and the names of files.
use Rattle.std.proofs.Common.{◌≡◌, ◌≢◌, ◌∙◌, ◌<◌, ◌+◌, ℕ, List, [], ◌∷◌, ◌++◌, length, cond, nat_lt, true, false, None, Some, refl, sym, ap, arith}
use Rattle.std.specs.List.{position_or_len, AllByRecursion}
use Rattle.std.proofs.lemmas.List.{append-nil, length-append, take_at}
use Rattle.sync_server.specs.Heads.{is_question, up_to, path_of}
use Rattle.sync_laws.specs.Server.{PathsAreCut, FilesAreApart}

other : (b : ℕ) → b ≢ 63 → is_question b ≡ false
other b apart = grind arith

is_below : (m n : ℕ) → m < n → nat_lt m n ≡ true
is_below m n less = grind arith

is_not_below : (n : ℕ) → nat_lt n n ≡ false
is_not_below n = grind arith

no_more : (n : ℕ) → n + 0 ≡ n
no_more n = omega arith

-- the first question mark stands behind a text that has none
behind : (path rest : List ℕ) → AllByRecursion (λ b. b ≢ 63) path → position_or_len is_question (path ++ rest) ≡ length path + position_or_len is_question rest
behind [] rest plain = omega arith
behind (b ∷ path) rest plain = let later = behind path rest plain.1 in rw (other b plain.0) (omega (arith, later))

cut : (path query : List ℕ) → AllByRecursion (λ b. b ≢ 63) path → path_of (path ++ 63 ∷ query) ≡ path
cut path query plain =
    let target : List ℕ = path ++ 63 ∷ query in
    let at : position_or_len is_question target ≡ length path = behind path (63 ∷ query) plain ∙ no_more (length path) in
    let less : nat_lt (length path) (length target) ≡ true = is_below (length path) (length target) (omega (arith, length-append path (63 ∷ query))) in
    ap (λ n. up_to (cond (nat_lt n (length target)) (Some n) None) target) at
    ∙ ap (λ b. up_to (cond b (Some (length path)) None) target) less
    ∙ take_at path (63 ∷ query) (length path) refl

whole : (path : List ℕ) → AllByRecursion (λ b. b ≢ 63) path → path_of path ≡ path
whole path plain =
    let at : position_or_len is_question path ≡ length path =
    ap (position_or_len is_question) (sym (append-nil path)) ∙ behind path [] plain ∙ no_more (length path) in
    ap (λ n. up_to (cond (nat_lt n (length path)) (Some n) None) path) at
    ∙ ap (λ b. up_to (cond b (Some (length path)) None) path) (is_not_below (length path))

pub paths_cut : PathsAreCut
paths_cut = record { cut = cut; whole = whole }

pub files_apart : FilesAreApart
files_apart file other same = cc
