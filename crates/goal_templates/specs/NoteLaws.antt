-- What the law on notes says.
use Rattle.std.specs.Prelude.{◌≡◌, ◌↔◌, ◌⊎◌, ℕ, ◌+◌, true, List, [], ◌∷◌, ◌++◌, length}
use Rattle.finite_sums.specs.Maps.{Text}
use Rattle.book_rows.specs.declared.rows.Rows.{Rows}
use Rattle.book_rows.specs.Live.{is_expense_category}
use Rattle.goal_templates.specs.declared.template.Template.{Template}
use Rattle.goal_templates.specs.declared.share.BadLine.{BadLine}
use Rattle.goal_templates.specs.Grammar.{IsTemplate, Begins}
use Rattle.goal_templates.specs.Notes.{note_lines, templates, bad_lines}

-- the element stands in the list
abbrev pub IsIn : {X : Type 0} → X → List X → Type 0
IsIn x [] = ⊥
IsIn x (y ∷ ys) = (x ≡ y) ⊎ IsIn x ys

-- a line, and its number among lines, counted from 1
abbrev pub IsLine : List Text → ℕ → Text → Type 0
IsLine lines n line = (before : List Text) × (after : List Text) × (lines ≡ before ++ line ∷ after) × (n ≡ length before + 1)

-- what a book asks for is what the lines of the notes of its live expense categories say, and of these lines those are bad that begin as a
-- template and are none, each told by its number
pub record NotesAreRead (rows : Rows) : Type 0 where
  pub asked : (c : Text) (t : Template)
      → IsIn (record { category = c; template = t }) (templates rows) ↔ ((is_expense_category rows c ≡ true) × ((line : Text) × IsIn line (note_lines rows c) × IsTemplate line t))
  pub bad : (x : BadLine) → IsIn x (bad_lines rows)
      ↔ ((is_expense_category rows x.category ≡ true) × ((line : Text) × IsLine (note_lines rows x.category) x.number line × Begins line × ((t : Template) → IsTemplate line t → ⊥)))
