use Rattle.std.proofs.Common.{◌≡◌, ◌++◌, drop}
use Rattle.goal_templates.specs.Notes.{asked_for}
use Rattle.goal_templates.proofs.notes.asked_for.Given as goal

abbrev pub invariant-loop-id : goal.invariant-loop-id
invariant-loop-id l = l.asked.items ++ asked_for l.book.rows (drop l.id-index l.ids) ≡ asked_for l.book.rows l.ids
