-- What the notes of categories ask for.
use Rattle.std.specs.Prelude.{ℕ, ◌+◌, ◌==◌, List, [], ◌∷◌, ◌++◌, flat_map, Option, Some, None, Result, Ok, Err}
use Rattle.std.specs.Option.{option_and_then}
use Rattle.std.specs.List.{slice_split}
use Rattle.std.specs.FinMap as map
use Rattle.finite_sums.specs.Maps.{Text}
use Rattle.book_rows.specs.declared.rows.Rows.{Rows}
use Rattle.book_rows.specs.declared.rows.NoteRow.{NoteRow}
use Rattle.envelope_cells.specs.Budget.{expense}
use Rattle.envelope_cells.specs.BudgetOf.{budget_of}
use Rattle.goal_templates.specs.declared.template.Template.{Template}
use Rattle.goal_templates.specs.declared.template.TemplateFault.{TemplateFault}
use Rattle.goal_templates.specs.declared.template.TemplateFault.TheVariants.{Bad}
use Rattle.goal_templates.specs.declared.share.Asked.{Asked}
use Rattle.goal_templates.specs.declared.share.BadLine.{BadLine}
use Rattle.goal_templates.specs.Reading.{template_of}

-- the lines of a note, if there is one: it is cut at each line feed
abbrev pub lines_in : Option Text → List Text
lines_in None = []
lines_in (Some note) = slice_split (λ b. b == 10) note

-- the lines of a category's note
abbrev pub note_lines : Rows → Text → List Text
note_lines rows c = lines_in (option_and_then (λ (n : NoteRow). n.note) (map.get rows.notes c))

-- the template of a line, if it has one
abbrev pub asked_by : Text → Result Template TemplateFault → List Asked
asked_by c (Ok t) = record { category = c; template = t } ∷ []
asked_by c (Err fault) = []

-- those of lines
abbrev pub asked_in : Text → List Text → List Asked
asked_in c lines = flat_map (λ line. asked_by c (template_of line)) lines

-- those of categories, one after the other
abbrev pub asked_for : Rows → List Text → List Asked
asked_for rows cs = flat_map (λ c. asked_in c (note_lines rows c)) cs

-- the templates of all live expense categories, in the order of the sheet, and those of one category in the order of the lines
abbrev pub templates : Rows → List Asked
templates rows = asked_for rows (expense (budget_of rows))

-- a line that begins as a template and is none
abbrev pub bad_by : Text → ℕ → Result Template TemplateFault → List BadLine
bad_by c n (Ok t) = []
bad_by c n (Err Bad) = record { category = c; number = n } ∷ []
bad_by c n (Err fault) = []

-- those among lines, of which the first has this number
abbrev pub bad_from : Text → ℕ → List Text → List BadLine
bad_from c n [] = []
bad_from c n (line ∷ lines) = bad_by c n (template_of line) ++ bad_from c (n + 1) lines

abbrev pub bad_for : Rows → List Text → List BadLine
bad_for rows cs = flat_map (λ c. bad_from c 1 (note_lines rows c)) cs

-- those of all live expense categories, in the same order
abbrev pub bad_lines : Rows → List BadLine
bad_lines rows = bad_for rows (expense (budget_of rows))
