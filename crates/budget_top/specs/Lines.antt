-- How bytes are cut into lines.
use Rattle.std.specs.Prelude.{◌≡◌, ℕ, Bool, List, [], ◌∷◌, ◌++◌, ◌==◌}
use Rattle.std.specs.List.{slice_split}

-- whether a byte ends a line: 10 is the line feed
abbrev pub is_end : ℕ → Bool
is_end byte = byte == 10

-- the pieces between line feeds, of which there is at least one
abbrev pub pieces : List ℕ → List (List ℕ)
pieces bytes = slice_split is_end bytes

-- no line feed stands in the bytes
abbrev pub IsWithinLine : List ℕ → Type 0
IsWithinLine bytes = pieces bytes ≡ bytes ∷ []

-- all but the last of some pieces
abbrev pub all_but_last : List (List ℕ) → List (List ℕ)
all_but_last [] = []
all_but_last (piece ∷ []) = []
all_but_last (piece ∷ next ∷ rest) = piece ∷ all_but_last (next ∷ rest)

-- the last of some pieces
abbrev pub last_of : List (List ℕ) → List ℕ
last_of [] = []
last_of (piece ∷ []) = piece
last_of (piece ∷ next ∷ rest) = last_of (next ∷ rest)

-- the lines that end with a line feed, without it
abbrev pub whole_lines : List ℕ → List (List ℕ)
whole_lines bytes = all_but_last (pieces bytes)

-- what stands after the last line feed
abbrev pub last_piece : List ℕ → List ℕ
last_piece bytes = last_of (pieces bytes)

-- a line where there is a byte, and none where there is no byte
abbrev pub line_if_some : List ℕ → List (List ℕ)
line_if_some [] = []
line_if_some (byte ∷ bytes) = (byte ∷ bytes) ∷ []

-- all lines of an input that has ended: the last one may lack its line feed
abbrev pub all_lines : List ℕ → List (List ℕ)
all_lines bytes = whole_lines bytes ++ line_if_some (last_piece bytes)
