use Rattle.std.proofs.Common.{◌≡◌, ◌++◌, drop}
use Rattle.goal_templates.proofs.sides.push_copies.Given as goal

abbrev pub invariant-loop-id : goal.invariant-loop-id
invariant-loop-id l = l.all.items ++ drop l.id-index l.ids ≡ l.initial.all.items ++ l.ids
