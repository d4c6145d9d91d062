use Rattle.std.proofs.Common.{◌≡◌, ◌++◌, drop, map as list_map}
use Rattle.goal_templates.specs.Notes.{asked_in}
use Rattle.goal_templates.proofs.notes.push_all.Given as goal

abbrev pub invariant-loop-line : goal.invariant-loop-line
invariant-loop-line l = l.asked.items ++ asked_in l.id (list_map (λ x. x.now) (drop l.line-index l.lines)) ≡ l.initial.asked.items ++ asked_in l.id (list_map (λ x. x.now) l.lines)
