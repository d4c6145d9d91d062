-- Of each line about what a month is to have: its words can be given, and its command is told by them.
use Rattle.std.proofs.Common.{◌≡◌, ℕ, List, [], ◌∷◌, ◌⊎◌, refl}
use Rattle.std.specs.Prelude.{codes}
use Rattle.device_core.specs.declared.edit.Edit.TheVariants.{GoalsApply}
use Rattle.command_lines.specs.declared.command.Command.TheVariants.{Edit, Goals, TrackCell, TrackSheet}
use Rattle.command_lines.specs.Forms.{misfit, no_more, word, month_of}
use Rattle.command_lines.specs.Commands.{goals_words, goals_apply_words, track_cell_words, track_sheet_words, plan_lines, words_of_plan_lines, words_of_session_lines}
use Rattle.command_lines.proofs.FormTexts.{month_written}
use Rattle.command_lines.proofs.Opening.{Opens, open_end, open_word, open_month}
use Rattle.command_lines.proofs.Telling.{Tells, tells_form}
use Rattle.command_lines.proofs.Known.{IsKnown, AreKnown, known_in}
use Rattle.command_lines.proofs.SessionLines.{session_lines_known}

goals_opens : Opens goals_words
goals_opens = open_month _ (λ month. open_end _)

goals_tells : Tells (codes "goals" ∷ []) goals_words
goals_tells = λ month_t.
    tells_form (month_of month_t) (codes "goals" ∷ month_t ∷ []) month_t month_of (λ month. no_more (Goals month)) refl (λ month month_read.
    record { same = λ i. codes "goals" ∷ (month_written month_t month month_read).0 i ∷ []; valid = tt; can = (month_written month_t month month_read).1 })

goals_apply_opens : Opens goals_apply_words
goals_apply_opens = open_month _ (λ month. open_end _)

goals_apply_tells : Tells (codes "goals-apply" ∷ []) goals_apply_words
goals_apply_tells = λ month_t.
    tells_form (month_of month_t) (codes "goals-apply" ∷ month_t ∷ []) month_t month_of (λ month. no_more (Edit (GoalsApply month))) refl (λ month month_read.
    record { same = λ i. codes "goals-apply" ∷ (month_written month_t month month_read).0 i ∷ []; valid = tt; can = (month_written month_t month month_read).1 })

track_cell_opens : Opens track_cell_words
track_cell_opens = open_month _ (λ month. open_word _ (λ name. open_end _))

track_cell_tells : Tells (codes "track-cell" ∷ []) track_cell_words
track_cell_tells = λ month_t.
    tells_form (month_of month_t) (codes "track-cell" ∷ month_t ∷ []) month_t month_of (λ month. word (λ name. no_more (TrackCell month name))) refl (λ month month_read. λ name.
    record { same = λ i. codes "track-cell" ∷ (month_written month_t month month_read).0 i ∷ name ∷ []; valid = tt; can = (month_written month_t month month_read).1 })

track_sheet_opens : Opens track_sheet_words
track_sheet_opens = open_month _ (λ month. open_end _)

track_sheet_tells : Tells (codes "track-sheet" ∷ []) track_sheet_words
track_sheet_tells = λ month_t.
    tells_form (month_of month_t) (codes "track-sheet" ∷ month_t ∷ []) month_t month_of (λ month. no_more (TrackSheet month)) refl (λ month month_read.
    record { same = λ i. codes "track-sheet" ∷ (month_written month_t month month_read).0 i ∷ []; valid = tt; can = (month_written month_t month month_read).1 })

plan_lines_are : AreKnown plan_lines
plan_lines_are = (
  record { good = refl; plain = refl; form = tt; goes = goals_opens.1; tells = goals_tells },
  (
    record { good = refl; plain = refl; form = tt; goes = goals_apply_opens.1; tells = goals_apply_tells },
    (
      record { good = refl; plain = refl; form = tt; goes = track_cell_opens.1; tells = track_cell_tells },
      (record { good = refl; plain = refl; form = tt; goes = track_sheet_opens.1; tells = track_sheet_tells }, tt),
    ),
  ),
)

pub plan_lines_known : (name : List ℕ) → (words_of_plan_lines name ≡ misfit) ⊎ IsKnown name (words_of_plan_lines name)
unfolding words_of_plan_lines
plan_lines_known name = known_in plan_lines name (words_of_session_lines name) plan_lines_are (session_lines_known name)
