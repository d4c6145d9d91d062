use Rattle.std.proofs.Common.{◌≡◌, ◌++◌, drop}
use Rattle.goal_templates.specs.Notes.{bad_for}
use Rattle.goal_templates.proofs.notes.bad_for.Given as goal

abbrev pub invariant-loop-id : goal.invariant-loop-id
invariant-loop-id l = l.bad.items ++ bad_for l.book.rows (drop l.id-index l.ids) ≡ bad_for l.book.rows l.ids
