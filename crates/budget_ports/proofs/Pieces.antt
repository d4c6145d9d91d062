-- What a read moves from the front of what is left.
use Rattle.std.proofs.Common.{◌≡◌, ℕ, ◌+◌, ◌<◌, ◌≤◌, ◌-◌, List, [], ◌++◌, length, take, drop, arith, sym, ap, ◌∙◌, min, length-take}
use Rattle.std.proofs.lemmas.List.{take-append-drop}
use Rattle.std.proofs.lemmas.Grind.{common_steps}

-- what is left, cut at its own length
whole_rest : (xs ys : List ℕ) (at : ℕ) → ys ≡ xs → take (length ys - at) (drop at ys) ≡ drop at xs
whole_rest xs ys at e = rw e (grind (arith, common_steps))

read_front : (bytes old w : List ℕ) (at n : ℕ) → length w ≡ n → w ≡ take n (drop at bytes) → drop at bytes ≡ take n (w ++ drop n old) ++ drop (at + n) bytes
read_front bytes old w at n h e =
    let whole = take-append-drop n (drop at bytes) in
    let mine : take n (w ++ drop n old) ≡ w = grind (arith, common_steps) in
    let after : drop n (drop at bytes) ≡ drop (at + n) bytes = grind (arith, common_steps) in
    rw (mine, ← after, e) (sym whole)

at_end : (bytes : List ℕ) (at n most room : ℕ) → n ≡ min most (length (drop at bytes)) → (0 < room → 0 < most) → 0 < room → n ≡ 0 → drop (at + n) bytes ≡ []
at_end bytes at n most room m some r z = let more = some r in grind (arith, common_steps)

-- n bytes went from what was left to the buffer, no more than this bound, and none only where nothing was left
pub moved_within : (left bytes slice moved buffer : List ℕ) (at n most : ℕ) → drop at bytes ≡ left → slice ≡ bytes
    → n ≡ min most (length (take (length slice - at) (drop at slice))) → (0 < length buffer → 0 < most) → n ≤ length buffer
    → length moved ≡ length (take n buffer) → moved ≡ take n (take (length slice - at) (drop at slice))
    → (left ≡ take n (moved ++ drop n buffer) ++ drop (at + n) bytes) × (n ≡ 0 → 0 < length (moved ++ drop n buffer) → drop (at + n) bytes ≡ [])
moved_within left bytes slice w buffer at n most begin same count some fits long front =
    let rest = whole_rest bytes slice at same in
    let bound : n ≡ min most (length (drop at bytes)) = count ∙ ap (λ xs. min most (length xs)) rest in
    let width : length w ≡ n = long ∙ simp length-take (omega arith) in
    let mine : w ≡ take n (drop at bytes) = front ∙ ap (λ xs. take n xs) rest in
    (sym begin ∙ read_front bytes buffer w at n width mine, λ none more. at_end bytes at n most (length buffer) bound some (grind (arith, common_steps)) none)

-- the same, where the buffer alone is the bound
pub moved : (left bytes slice moved buffer : List ℕ) (at n : ℕ) → drop at bytes ≡ left → slice ≡ bytes
    → n ≡ min (length buffer) (length (take (length slice - at) (drop at slice)))
    → length moved ≡ length (take n buffer) → moved ≡ take n (take (length slice - at) (drop at slice))
    → (left ≡ take n (moved ++ drop n buffer) ++ drop (at + n) bytes) × (n ≡ 0 → 0 < length (moved ++ drop n buffer) → drop (at + n) bytes ≡ [])
moved left bytes slice w buffer at n begin same count long front =
    moved_within left bytes slice w buffer at n (length buffer) begin same count (λ some. some) (omega arith) long front
