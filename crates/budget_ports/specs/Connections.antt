-- What comes in through a door, and what goes out.
use Rattle.std.specs.Prelude.{◌≡◌, ℕ, List, [], ◌∷◌, ◌++◌, drop, Option, None, Some, ⊤}

-- what was known stays as it was
abbrev pub Stays : {T : Type 0} → Option T → Option T → Type 0
Stays None new = ⊤
Stays (Some old) None = ⊥
Stays (Some old) (Some new) = new ≡ old

-- the bytes of the connection that comes next: past the last one there are none
abbrev pub next_bytes : List (List ℕ) → List ℕ
next_bytes [] = []
next_bytes (bytes ∷ later) = bytes

-- the next connection waits no more, as far as is known who waits
abbrev pub LetsIn : Option (List (List ℕ)) → Option (List (List ℕ)) → Type 0
LetsIn None new = ⊤
LetsIn (Some old) None = ⊥
LetsIn (Some old) (Some new) = new ≡ drop 1 old

-- all its bytes are left, as far as is known who waited
abbrev pub Opens : Option (List (List ℕ)) → Option (List ℕ) → Type 0
Opens None left = ⊤
Opens (Some waited) left = left ≡ Some (next_bytes waited)

-- nothing was written to it so far, and what was written to the others stays, as far as it is known
abbrev pub Begins : Option (List (List ℕ)) → Option (List (List ℕ)) → Type 0
Begins None new = ⊤
Begins (Some old) None = ⊥
Begins (Some old) (Some new) = new ≡ old ++ [] ∷ []

-- these bytes were written to the connection that was let in last, as far as it is known what was written
abbrev pub Writes : Option (List (List ℕ)) → Option (List (List ℕ)) → List ℕ → Type 0
Writes None new bytes = ⊤
Writes (Some old) None bytes = ⊥
Writes (Some old) (Some new) bytes =
    (earlier : List (List ℕ)) × (last : List ℕ) × (old ≡ earlier ++ last ∷ []) × (new ≡ earlier ++ (last ++ bytes) ∷ [])
