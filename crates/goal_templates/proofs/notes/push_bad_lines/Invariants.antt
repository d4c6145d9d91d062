use Rattle.std.proofs.Common.{◌≡◌, ◌+◌, ◌++◌, drop, map as list_map}
use Rattle.goal_templates.specs.Notes.{bad_from}
use Rattle.goal_templates.proofs.notes.push_bad_lines.Given as goal

abbrev pub invariant-loop-i : goal.invariant-loop-i
invariant-loop-i l = l.bad.items ++ bad_from l.id (l.i + 1) (list_map (λ x. x.now) (drop l.i l.lines)) ≡ l.initial.bad.items ++ bad_from l.id 1 (list_map (λ x. x.now) l.lines)
