-- The pieces of bytes that come one after the other.
use Rattle.std.proofs.Common.{◌≡◌, ℕ, suc, ◌+◌, ◌≤◌, ◌<◌, List, [], ◌∷◌, ◌++◌, refl, ap, sym, ◌∙◌, Bool, true, false, cond, not, None, Some, length, take, get_or, nat_lt, arith, append-nil, subst}
use Rattle.std.proofs.lemmas.Bool.{ltb-false, eqb-true}
use Rattle.std.proofs.lemmas.List.Quantifiers.{position-Some}
use Rattle.std.proofs.lemmas.Grind.{common_steps}
use Rattle.std.specs.List.{onto_first, position, position_or_len}
use Rattle.std.specs.Prelude.{slice_index}
use Rattle.budget_top.specs.Lines.{is_end, pieces, IsWithinLine, all_but_last, last_of, whole_lines, last_piece}

-- bytes before the first of some pieces
abbrev pub onto : List ℕ → List (List ℕ) → List (List ℕ)
onto front [] = front ∷ []
onto front (p ∷ ps) = (front ++ p) ∷ ps

onto_none : (t : Bool) (b : ℕ) (ps : List (List ℕ)) → onto [] (cond t ([] ∷ ps) (onto_first b ps)) ≡ cond t ([] ∷ ps) (onto_first b ps)
onto_none true b ps = refl
onto_none false b [] = refl
onto_none false b (p ∷ ps) = refl

-- there is a piece
pub pieces_some : (bytes : List ℕ) → onto [] (pieces bytes) ≡ pieces bytes
pieces_some [] = refl
pieces_some (b ∷ bs) = onto_none (is_end b) b (pieces bs)

onto_first-onto : (b : ℕ) (p : List ℕ) (qs : List (List ℕ)) → onto_first b (onto p qs) ≡ onto (b ∷ p) qs
onto_first-onto b p [] = refl
onto_first-onto b p (q ∷ qs) = refl

one_more : (t : Bool) (b : ℕ) (ps qs whole : List (List ℕ)) → onto [] ps ≡ ps → whole ≡ all_but_last ps ++ onto (last_of ps) qs
    → cond t ([] ∷ whole) (onto_first b whole) ≡ all_but_last (cond t ([] ∷ ps) (onto_first b ps)) ++ onto (last_of (cond t ([] ∷ ps) (onto_first b ps))) qs
one_more t b [] qs whole some h = absurd (cc)
one_more true b (p ∷ ps) qs whole some h = ap (λ xs. [] ∷ xs) h
one_more false b (p ∷ []) qs whole some h = ap (λ xs. onto_first b xs) h ∙ onto_first-onto b p qs
one_more false b (p ∷ r ∷ rs) qs whole some h = ap (λ xs. onto_first b xs) h

-- the last piece of the first bytes goes on in the next bytes
pub pieces-append : (xs ys : List ℕ) → pieces (xs ++ ys) ≡ whole_lines xs ++ onto (last_piece xs) (pieces ys)
pieces-append [] ys = sym (pieces_some ys)
pieces-append (b ∷ bs) ys = one_more (is_end b) b (pieces bs) (pieces ys) (pieces (bs ++ ys)) (pieces_some bs) (pieces-append bs ys)

pub but_last-append : (ls : List (List ℕ)) (q : List ℕ) (qs : List (List ℕ)) → all_but_last (ls ++ q ∷ qs) ≡ ls ++ all_but_last (q ∷ qs)
but_last-append [] q qs = refl
but_last-append (l ∷ []) q qs = refl
but_last-append (l ∷ m ∷ ms) q qs = ap (λ xs. l ∷ xs) (but_last-append (m ∷ ms) q qs)

pub last_of-append : (ls : List (List ℕ)) (q : List ℕ) (qs : List (List ℕ)) → last_of (ls ++ q ∷ qs) ≡ last_of (q ∷ qs)
last_of-append [] q qs = refl
last_of-append (l ∷ []) q qs = refl
last_of-append (l ∷ m ∷ ms) q qs = last_of-append (m ∷ ms) q qs

pub whole_lines-within : (xs ys : List ℕ) → IsWithinLine ys → whole_lines (xs ++ ys) ≡ whole_lines xs
whole_lines-within xs ys h =
    ap all_but_last (pieces-append xs ys ∙ ap (λ ps. whole_lines xs ++ onto (last_piece xs) ps) h)
    ∙ but_last-append (whole_lines xs) (last_piece xs ++ ys) [] ∙ append-nil (whole_lines xs)

pub last_piece-within : (xs ys : List ℕ) → IsWithinLine ys → last_piece (xs ++ ys) ≡ last_piece xs ++ ys
last_piece-within xs ys h =
    ap last_of (pieces-append xs ys ∙ ap (λ ps. whole_lines xs ++ onto (last_piece xs) ps) h)
    ∙ last_of-append (whole_lines xs) (last_piece xs ++ ys) []

pub whole_lines-end : (xs : List ℕ) → whole_lines (xs ++ 10 ∷ []) ≡ whole_lines xs ++ last_piece xs ∷ []
whole_lines-end xs =
    ap all_but_last (pieces-append xs (10 ∷ []))
    ∙ but_last-append (whole_lines xs) (last_piece xs ++ []) ([] ∷ [])
    ∙ ap (λ p. whole_lines xs ++ p ∷ []) (append-nil (last_piece xs))

pub last_piece-end : (xs : List ℕ) → last_piece (xs ++ 10 ∷ []) ≡ []
last_piece-end xs =
    ap last_of (pieces-append xs (10 ∷ [])) ∙ last_of-append (whole_lines xs) (last_piece xs ++ []) ([] ∷ [])

-- the whole lines of the first bytes, and then those that end in the next bytes
pub whole_lines-append : (xs ys : List ℕ) → (more : List (List ℕ)) × (whole_lines (xs ++ ys) ≡ whole_lines xs ++ more)
whole_lines-append xs ys = parted (pieces ys) (pieces-append xs ys)
  where
    parted : (ps : List (List ℕ)) → pieces (xs ++ ys) ≡ whole_lines xs ++ onto (last_piece xs) ps → (more : List (List ℕ)) × (whole_lines (xs ++ ys) ≡ whole_lines xs ++ more)
    parted [] e = (all_but_last (last_piece xs ∷ []), ap all_but_last e ∙ but_last-append (whole_lines xs) (last_piece xs) [])
    parted (p ∷ ps) e = (all_but_last ((last_piece xs ++ p) ∷ ps), ap all_but_last e ∙ but_last-append (whole_lines xs) (last_piece xs ++ p) ps)

before_step : (t : Bool) (b n : ℕ) (bs : List ℕ) → is_end b ≡ t → pieces (take n bs) ≡ take n bs ∷ []
    → pieces (take (cond (not t) (1 + n) 0) (b ∷ bs)) ≡ take (cond (not t) (1 + n) 0) (b ∷ bs) ∷ []
before_step true b n bs e h = refl
before_step false b n bs e h =
    let one : 1 + n ≡ suc n = omega arith in
    rw (one, e) (ap (λ ps. onto_first b ps) h)

-- what stands before the first end is within a line
pub within_before : (bytes : List ℕ) → IsWithinLine (take (position_or_len is_end bytes) bytes)
within_before [] = refl
within_before (b ∷ bs) = before_step (is_end b) b (position_or_len is_end bs) bs refl (within_before bs)

pub within_none : (bytes : List ℕ) → position is_end bytes ≡ None → IsWithinLine bytes
within_none bytes none =
    let n = position_or_len is_end bytes in
    let last : nat_lt (position_or_len is_end bytes) (length bytes) ≡ false = no_some (nat_lt (position_or_len is_end bytes) (length bytes)) (position_or_len is_end bytes) none in
    let long : length bytes ≤ position_or_len is_end bytes = ltb-false _ _ last in
    let all : take (position_or_len is_end bytes) bytes ≡ bytes = grind (arith, common_steps) in
    let P : List ℕ → Type 0 = λ xs. pieces xs ≡ xs ∷ [] in
    subst P all (within_before bytes)
  where
    no_some : (t : Bool) (k : ℕ) → cond t (Some k) None ≡ None → t ≡ false
    no_some true k e = absurd (cc)
    no_some false k e = refl

-- the first line feed stands at this place
pub record FirstEnd (bytes : List ℕ) (at : ℕ) : Type 0 where
  pub inside : at < length bytes
  pub line : IsWithinLine (take at bytes)
  pub end : slice_index bytes at ≡ 10

pub first_end : (bytes : List ℕ) (n : ℕ) → position is_end bytes ≡ Some n → FirstEnd bytes n
first_end bytes n some =
    let there = position-Some is_end bytes n 0 some in
    let at : position_or_len is_end bytes ≡ n = is_some (nat_lt (position_or_len is_end bytes) (length bytes)) (position_or_len is_end bytes) n some in
    let P : ℕ → Type 0 = λ k. pieces (take k bytes) ≡ take k bytes ∷ [] in
    record { inside = there.0; line = subst P at (within_before bytes); end = eqb-true (get_or bytes n 0) 10 there.1 }
  where
    is_some : (t : Bool) (k n : ℕ) → cond t (Some k) None ≡ Some n → k ≡ n
    is_some true k n e = cc
    is_some false k n e = absurd (cc)
