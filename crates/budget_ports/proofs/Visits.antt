-- What is written to connections, one after the other.
use Rattle.std.proofs.Common.{◌≡◌, ℕ, ◌+◌, ◌<◌, ◌≤◌, List, [], ◌∷◌, ◌++◌, map, replicate, sym, ap, subst, ◌∙◌, Some, arith}
use Rattle.std.proofs.lemmas.List.{map-append, append_assoc, append-nil, replicate-append-replicate}
use Rattle.budget_ports.specs.Connections.{Writes}
use Rattle.budget_ports.specs.MemoryDoor.{RoomState, PutsLast, piece}

abbrev written : List RoomState → List (List ℕ)
written rooms = map (λ (room : RoomState). room.taken) rooms

-- so many connections to which nothing was written
abbrev many : ℕ → List (List ℕ)
many n = replicate n []

-- one more is the same before them and behind them
one_more : (n : ℕ) → many n ++ [] ∷ [] ≡ [] ∷ many n
one_more n = replicate-append-replicate n 1 [] ∙ ap many (omega arith) ∙ sym (replicate-append-replicate 1 n [])

pub let_in : (rooms : List RoomState) (n : ℕ) (room : RoomState) → room.taken ≡ [] → written (rooms ++ room ∷ []) ++ many n ≡ (written rooms ++ many n) ++ [] ∷ []
let_in rooms n room none =
    let split = map-append (λ (r : RoomState). r.taken) rooms (room ∷ []) in
    let now : written (rooms ++ room ∷ []) ++ many n ≡ (written rooms ++ room.taken ∷ []) ++ many n = ap (λ xs. xs ++ many n) split in
    let bare : (written rooms ++ room.taken ∷ []) ++ many n ≡ (written rooms ++ [] ∷ []) ++ many n = ap (λ t. (written rooms ++ t ∷ []) ++ many n) none in
    now ∙ bare ∙ append_assoc (written rooms) ([] ∷ []) (many n) ∙ ap (λ xs. written rooms ++ xs) (sym (one_more n)) ∙ sym (append_assoc (written rooms) (many n) ([] ∷ []))

pub past_in : (rooms : List RoomState) (n : ℕ) → written rooms ++ many (n + 1) ≡ (written rooms ++ many n) ++ [] ∷ []
past_in rooms n = ap (λ xs. written rooms ++ xs) (sym (replicate-append-replicate n 1 [])) ∙ sym (append_assoc (written rooms) (many n) ([] ∷ []))

-- what is put into the last room is written to the connection that was let in last
pub written_last : (old new : List RoomState) (n : ℕ) (bytes : List ℕ) → n ≡ 0 → PutsLast old new bytes
    → Writes (Some (written old ++ many n)) (Some (written new ++ many n)) bytes
written_last old new n bytes none puts =
    let earlier = written puts.earlier in
    let bare : (rooms : List RoomState) → written rooms ++ many n ≡ written rooms = λ rooms. ap (λ k. written rooms ++ many k) none ∙ append-nil (written rooms) in
    let split : (room : RoomState) → written (puts.earlier ++ room ∷ []) ≡ earlier ++ room.taken ∷ [] = λ room. map-append (λ (r : RoomState). r.taken) puts.earlier (room ∷ []) in
    let before = bare old ∙ ap written puts.before ∙ split puts.last in
    let after = bare new ∙ ap written puts.after ∙ split (record puts.last { taken = puts.last.taken ++ bytes }) in
    (earlier, puts.last.taken, before, after)

-- the same, where what was told and the bytes stand in other words
pub as_written : (told old new : List (List ℕ)) (bytes all : List ℕ) → old ≡ told → bytes ≡ all → Writes (Some old) (Some new) bytes → Writes (Some told) (Some new) all
as_written told old new bytes all e f w = subst (λ t. Writes (Some t) (Some new) all) e (subst (λ b. Writes (Some old) (Some new) b) f w)

-- a piece of a buffer that is not empty has a byte, and no more than the buffer
pub piece_some : (pieces : List ℕ) (reads room : ℕ) → 0 < room → 0 < piece pieces reads room
piece_some [] reads room some = some
piece_some (first ∷ more) reads room some = omega arith

pub piece_fits : (pieces : List ℕ) (reads room : ℕ) → piece pieces reads room ≤ room
piece_fits [] reads room = omega arith
piece_fits (first ∷ more) reads room = omega arith
