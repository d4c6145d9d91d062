-- How a command line is written.
use Rattle.std.specs.Prelude.{◌≡◌, ◌≢◌, ◌↔◌, ℕ, List, [], ◌∷◌, ◌++◌, Some, true, codes}
use Rattle.budget_top.specs.Line.{Pair, plain, look, is_option, mode, is_line, line}

-- the words write these pairs
pub data IsWritten : List Pair → List (List ℕ) → Type 0 where
  nothing : IsWritten [] []
  -- `--` may stand last
  dashes : IsWritten [] (codes "--" ∷ [])
  -- behind it a mode word, which may begin with a hyphen
  last_word : (text : List ℕ) → IsWritten ((mode, text) ∷ []) (codes "--" ∷ text ∷ [])
  -- a mode word without a hyphen in front, or a hyphen alone
  word : (text : List ℕ) (pairs : List Pair) (words : List (List ℕ)) → look text ≡ plain → IsWritten pairs words → IsWritten ((mode, text) ∷ pairs) (text ∷ words)
  -- `--name=value`
  joined : (name value : List ℕ) (pairs : List Pair) (words : List (List ℕ)) → is_option name ≡ true → IsWritten pairs words
      → IsWritten ((name, value) ∷ pairs) ((codes "--" ++ name ++ 61 ∷ value) ∷ words)
  -- `--name value`, where the value has no hyphen in front
  apart : (name value : List ℕ) (pairs : List Pair) (words : List (List ℕ)) → is_option name ≡ true → look value ≡ plain → value ≢ codes "-" → IsWritten pairs words
      → IsWritten ((name, value) ∷ pairs) ((codes "--" ++ name) ∷ value ∷ words)

-- the lines are the words that write one mode word and each option at most once
abbrev pub LinesAreWritten : Type 0
LinesAreWritten = (words : List (List ℕ)) (pairs : List Pair) → (line words ≡ Some pairs) ↔ ((is_line pairs ≡ true) × IsWritten pairs words)
