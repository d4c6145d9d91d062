use Rattle.std.proofs.Common.{◌≡◌, ◌++◌, drop}
use Rattle.goal_templates.specs.Sides.{ids_on}
use Rattle.goal_templates.proofs.sides.ids_on.Given as goal

abbrev pub invariant-loop-group : goal.invariant-loop-group
invariant-loop-group l = l.all.items ++ ids_on l.income (drop l.group-index l.groups) ≡ ids_on l.income l.groups
