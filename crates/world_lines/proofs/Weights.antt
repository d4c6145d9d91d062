-- What stands behind words of a line is no longer than the line.
use Rattle.std.proofs.Common.{◌≡◌, ℕ, zero, suc, ◌+◌, ◌≤◌, List, [], ◌∷◌, Bool, true, false, cond, length, length-drop, drop, ◌-◌, ◌<◌, ◌==◌, refl, sym, ap, ◌∙◌, arith}
use Rattle.std.specs.List.{slice_split, onto_first}
use Rattle.field_merge.specs.Lines.{parts}

-- how long words are, each with what stands behind it
abbrev weight : List (List ℕ) → ℕ
weight [] = 0
weight (w ∷ ws) = length w + 1 + weight ws

more : (w : List ℕ) (ws : List (List ℕ)) → weight (w ∷ ws) ≡ length w + 1 + weight ws
more w ws = refl

onto : (x : ℕ) (ws : List (List ℕ)) (n : ℕ) → weight ws ≡ n + 1 → weight (onto_first x ws) ≡ n + 1 + 1
onto x [] n e = absurd (let none : 0 ≡ n + 1 = e in omega (arith, none))
onto x (w ∷ ws) n e =
    let old : length w + 1 + weight ws ≡ n + 1 = e in
    let goal : length w + 1 + 1 + weight ws ≡ n + 1 + 1 = omega (arith, old) in
    let new : weight ((x ∷ w) ∷ ws) ≡ length w + 1 + 1 + weight ws = omega (arith, more (x ∷ w) ws) in
    new ∙ goal

weighs_one : (is_end : ℕ → Bool) (x : ℕ) (xs : List ℕ) (b : Bool) → weight (slice_split is_end xs) ≡ length xs + 1
    → weight (cond b ([] ∷ slice_split is_end xs) (onto_first x (slice_split is_end xs))) ≡ length xs + 1 + 1
weighs_one is_end x xs true rest = let m : weight ([] ∷ slice_split is_end xs) ≡ 0 + 1 + weight (slice_split is_end xs) = refl in omega (arith, rest, m)
weighs_one is_end x xs false rest = onto x (slice_split is_end xs) (length xs) rest

weighs : (is_end : ℕ → Bool) (xs : List ℕ) → weight (slice_split is_end xs) ≡ length xs + 1
weighs is_end [] = refl
weighs is_end (x ∷ xs) = let e : length xs + 1 + 1 ≡ suc (length xs) + 1 = omega arith in weighs_one is_end x xs (is_end x) (weighs is_end xs) ∙ e

lighter : (k : ℕ) (ws : List (List ℕ)) → weight (drop k ws) ≤ weight ws
lighter zero ws = omega arith
lighter (suc k) [] = omega arith
lighter (suc k) (w ∷ ws) =
    let rest : weight (drop k ws) ≤ weight ws = lighter k ws in
    let m : weight (w ∷ ws) ≡ length w + 1 + weight ws = refl in
    let d : weight (drop (suc k) (w ∷ ws)) ≡ weight (drop k ws) = refl in
    omega (arith, rest, m, d)

pub no_longer : (k : ℕ) (line rest : List ℕ) → parts rest ≡ drop k (parts line) → length rest ≤ length line
no_longer k line rest e =
    let a : weight (parts line) ≡ length line + 1 = weighs (λ b. b == 9) line in
    let b : weight (parts rest) ≡ length rest + 1 = weighs (λ b. b == 9) rest in
    let c : weight (drop k (parts line)) ≤ weight (parts line) = lighter k (parts line) in
    let d : weight (parts rest) ≡ weight (drop k (parts line)) = ap weight e in
    omega (arith, a, b, c, d)

fewer : (ws : List (List ℕ)) → length ws ≤ weight ws
fewer [] = omega arith
fewer (w ∷ ws) =
    let rest : length ws ≤ weight ws = fewer ws in
    let m : weight (w ∷ ws) ≡ length w + 1 + weight ws = refl in
    let l : length (w ∷ ws) ≡ length ws + 1 = omega arith in
    omega (arith, rest, m, l)

-- a line has at most one word more than bytes
pub few_parts : (line : List ℕ) → length (parts line) ≤ length line + 1
few_parts line =
    let a : weight (parts line) ≡ length line + 1 = weighs (λ b. b == 9) line in
    let b : length (parts line) ≤ weight (parts line) = fewer (parts line) in
    omega (arith, a, b)

-- where a word is the last one behind so many, there are no more
pub last_word : (line rest : List ℕ) (at count : ℕ) → parts rest ≡ rest ∷ [] → parts rest ≡ drop at (parts line) → at < count → length (parts line) ≤ count
last_word line rest at count alone behind early =
    let a : length (drop at (parts line)) ≡ length (parts line) - at = length-drop at (parts line) in
    let b : length (drop at (parts line)) ≡ length (rest ∷ []) = ap length (sym behind ∙ alone) in
    let c : length (rest ∷ []) ≡ 1 = refl in
    omega (arith, a, b, c, early)
