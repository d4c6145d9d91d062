-- What the lines of an input are, and by which numbers the bad ones are told.
use Rattle.std.specs.Prelude.{◌≡◌, ◌≢◌, ℕ, ◌+◌, List, [], ◌∷◌, ◌++◌, length, codes, Ok, Err}
use Rattle.std.specs.Fmt.{decimal}
use Rattle.std.specs.List.{flat_map}
use Rattle.field_merge.specs.declared.message.Message.{Message}
use Rattle.field_merge.specs.Lines.{ended}
use Rattle.command_lines.specs.ReplyLines.{IsLine, AreLines}
use Rattle.budget_top.specs.declared.verdict.Word.{Word}
use Rattle.budget_top.specs.Lines.{whole_lines, all_lines}
use Rattle.budget_top.specs.Verdicts.{judged, word_text, bad_lines}

-- the bytes are these lines, each with its end, and then a piece without end, which may be empty
pub record IsMadeOf (bytes : List ℕ) (lines : List (List ℕ)) (last : List ℕ) : Type 0 where
  pub are_lines : AreLines lines
  pub is_line : IsLine last
  pub same : bytes ≡ flat_map ended lines ++ last

-- Any bytes are made of lines and a last piece. The whole lines are those lines, the empty ones too.
-- All lines are these and the last piece, where it is not empty.
pub record LinesAreCut : Type 0 where
  pub made : (bytes : List ℕ) → (lines : List (List ℕ)) × (last : List ℕ) × IsMadeOf bytes lines last
  pub whole : (bytes : List ℕ) (lines : List (List ℕ)) (last : List ℕ) → IsMadeOf bytes lines last → whole_lines bytes ≡ lines
  pub ended : (bytes : List ℕ) (lines : List (List ℕ)) → IsMadeOf bytes lines [] → all_lines bytes ≡ lines
  pub begun : (bytes : List ℕ) (lines : List (List ℕ)) (last : List ℕ) → last ≢ [] → IsMadeOf bytes lines last → all_lines bytes ≡ lines ++ last ∷ []
  -- behind other lines, a bad line is told by its word, and by its number among all lines, from 1 on
  pub bad : (lines : List (List ℕ)) (line : List ℕ) (word : Word) → judged line ≡ Err word
      → bad_lines (lines ++ line ∷ []) ≡ bad_lines lines ++ (codes "bad-line " ++ (decimal (length lines + 1) ++ 32 ∷ (word_text word ++ 10 ∷ [])))
  -- and nothing of a good one
  pub good : (lines : List (List ℕ)) (line : List ℕ) (m : Message) → judged line ≡ Ok m → bad_lines (lines ++ line ∷ []) ≡ bad_lines lines
  pub none : bad_lines [] ≡ []
