-- What the notes of a book ask for, and in which order.
use Rattle.std.specs.Prelude.{◌≡◌, ◌↔◌, ℕ, ◌+◌, ◌≤◌, ◌==◌, true, List, [], ◌∷◌, ◌++◌, length, filter, AllPairs, Some, None}
use Rattle.std.specs.List.{join_with_byte}
use Rattle.std.specs.List.Sorted.{IsPermutation}
use Rattle.std.specs.FinMap as map
use Rattle.finite_sums.specs.Maps.{Text}
use Rattle.book_rows.specs.declared.rows.Rows.{Rows}
use Rattle.book_rows.specs.declared.rows.NoteRow.{NoteRow}
use Rattle.envelope_cells.specs.Budget.{expense}
use Rattle.envelope_cells.specs.BudgetOf.{budget_of}
use Rattle.goal_templates.specs.declared.template.Template.{Template}
use Rattle.goal_templates.specs.declared.share.Asked.{Asked}
use Rattle.goal_templates.specs.Grammar.{IsTemplate, Begins}
use Rattle.goal_templates.specs.Notes.{note_lines, asked_in, asked_for, templates, bad_from, bad_for, bad_lines}
use Rattle.goal_templates.specs.NoteLaws.{IsIn}
use Rattle.goal_templates.specs.Sharing.{in_order}
use Rattle.goal_templates.specs.Allocation.{has_template}

-- the lines of a text: joined by line feeds they are the text, and none of them has a line feed
pub record AreLinesOf (note : Text) (lines : List Text) : Type 0 where
  pub some : 1 ≤ length lines
  pub joined : join_with_byte 10 lines ≡ note
  pub whole : (line : Text) → IsIn line lines → IsIn 10 line → ⊥

-- a category has the lines of its note, and none without a note
pub record LinesAreTold (rows : Rows) (c : Text) : Type 0 where
  pub noted : (row : NoteRow) (note : Text) → map.get rows.notes c ≡ Some row → row.note ≡ Some note → AreLinesOf note (note_lines rows c)
  pub empty : (row : NoteRow) → map.get rows.notes c ≡ Some row → row.note ≡ None → note_lines rows c ≡ []
  pub absent : map.get rows.notes c ≡ None → note_lines rows c ≡ []

-- a line that is no template
abbrev pub IsNoTemplate : Text → Type 0
IsNoTemplate line = (t : Template) → IsTemplate line t → ⊥

-- what lines of a category ask for: nothing where there are none; a line that is a template asks for it, between what the lines before it and
-- those after it ask for; any other line asks for nothing
pub record LinesAsk (c : Text) : Type 0 where
  pub nothing : asked_in c [] ≡ []
  pub template : (before after : List Text) (line : Text) (t : Template) → IsTemplate line t
      → asked_in c (before ++ line ∷ after) ≡ asked_in c before ++ record { category = c; template = t } ∷ asked_in c after
  pub other : (before after : List Text) (line : Text) → IsNoTemplate line → asked_in c (before ++ line ∷ after) ≡ asked_in c before ++ asked_in c after

-- which of them are bad, where the first has number n: those that begin as a template and are none, each with its number; no other line
pub record LinesAreBad (c : Text) (n : ℕ) : Type 0 where
  pub nothing : bad_from c n [] ≡ []
  pub bad : (before after : List Text) (line : Text) → Begins line → IsNoTemplate line
      → bad_from c n (before ++ line ∷ after) ≡ bad_from c n before ++ record { category = c; number = n + length before } ∷ bad_from c (n + length before + 1) after
  pub good : (before after : List Text) (line : Text) (t : Template) → IsTemplate line t
      → bad_from c n (before ++ line ∷ after) ≡ bad_from c n before ++ bad_from c (n + length before + 1) after
  pub other : (before after : List Text) (line : Text) → (Begins line → ⊥)
      → bad_from c n (before ++ line ∷ after) ≡ bad_from c n before ++ bad_from c (n + length before + 1) after

-- those of categories, one after the other, and those of a book, whose live categories of expenses come in the order of the sheet. A category has
-- a template where one of these is of it
pub record BooksAsk (rows : Rows) : Type 0 where
  pub book : templates rows ≡ asked_for rows (expense (budget_of rows))
  pub nothing : asked_for rows [] ≡ []
  pub category : (before after : List Text) (c : Text) → asked_for rows (before ++ c ∷ after) ≡ asked_for rows before ++ (asked_in c (note_lines rows c) ++ asked_for rows after)
  pub has : (c : Text) → (has_template (templates rows) c ≡ true) ↔ ((t : Template) × IsIn (record { category = c; template = t }) (templates rows))
  pub bad_of_book : bad_lines rows ≡ bad_for rows (expense (budget_of rows))
  pub nothing_bad : bad_for rows [] ≡ []
  pub bad_of_category : (before after : List Text) (c : Text) → bad_for rows (before ++ c ∷ after) ≡ bad_for rows before ++ (bad_from c 1 (note_lines rows c) ++ bad_for rows after)

-- templates in the order in which they are given: the same ones, each as often, rising by priority, and those of one priority as they came
pub record AreInOrder (xs ordered : List Asked) : Type 0 where
  pub same : IsPermutation xs ordered
  pub rising : AllPairs (λ (x y : Asked). x.template.priority ≤ y.template.priority) ordered
  pub kept : (k : ℕ) → filter (λ (x : Asked). x.template.priority == k) ordered ≡ filter (λ (x : Asked). x.template.priority == k) xs

pub record NotesAreWhole : Type 0 where
  pub lines : (rows : Rows) (c : Text) → LinesAreTold rows c
  pub asked : (c : Text) → LinesAsk c
  pub bad : (c : Text) (n : ℕ) → LinesAreBad c n
  pub books : (rows : Rows) → BooksAsk rows
  pub order : (xs : List Asked) → AreInOrder xs (in_order xs)
