-- What is sent to a server, and what comes back.
use Rattle.std.specs.Prelude.{◌≡◌, ℕ, List, [], ◌∷◌, ◌++◌, Option, None, Some, ⊤}

-- bytes that were sent, and the bytes that came back for them, where any did
pub record Exchange : Type 0 where
  pub sent : List ℕ
  pub got : Option (List ℕ)

-- bytes were sent, and nothing has come back for them
abbrev pub begun : List ℕ → Exchange
begun sent = record { sent = sent; got = None }

-- bytes came back for those that were sent
abbrev pub ended : List ℕ → List ℕ → Exchange
ended sent got = record { sent = sent; got = Some got }

-- these exchanges come after the others, as far as they are known
abbrev pub Adds : Option (List Exchange) → Option (List Exchange) → List Exchange → Type 0
Adds None new more = ⊤
Adds (Some old) None more = ⊥
Adds (Some old) (Some new) more = new ≡ old ++ more

-- for what was sent last nothing has come back, as far as the exchanges are known
abbrev pub IsOpen : Option (List Exchange) → Type 0
IsOpen None = ⊤
IsOpen (Some all) = (front : List Exchange) × (sent : List ℕ) × (all ≡ front ++ begun sent ∷ [])

-- these bytes came back for what was sent last, as far as the exchanges are known
abbrev pub Gets : Option (List Exchange) → Option (List Exchange) → List ℕ → Type 0
Gets None new got = ⊤
Gets (Some old) None got = ⊥
Gets (Some old) (Some new) got = (front : List Exchange) × (sent : List ℕ) × (old ≡ front ++ begun sent ∷ []) × (new ≡ front ++ ended sent got ∷ [])
