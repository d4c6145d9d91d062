-- What is written to the connection that is open.
use Rattle.std.specs.Prelude.{◌≡◌, ◌≢◌, ℕ, List, [], ◌∷◌, ◌++◌, Option, Some}

-- these bytes were written to the last connection, as far as it is known what was written
abbrev pub WritesTo : Option (List (List ℕ)) → Option (List (List ℕ)) → List ℕ → Type 0
WritesTo old new bytes = (earlier : List (List ℕ)) (last : List ℕ) → old ≡ Some (earlier ++ last ∷ []) → new ≡ Some (earlier ++ (last ++ bytes) ∷ [])

-- a front of the text was written, and not all of it
pub record WritesFront (old new : Option (List (List ℕ))) (text : List ℕ) : Type 0 where
  pub front : List ℕ
  pub rest : List ℕ
  pub of : text ≡ front ++ rest
  pub some : rest ≢ []
  pub wrote : WritesTo old new front
