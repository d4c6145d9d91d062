use Rattle.std.proofs.Common.{◌≡◌, drop}
use Rattle.goal_templates.specs.Allocation.{has_template}
use Rattle.goal_templates.proofs.money.has_template.Given as goal

abbrev pub invariant-loop-one : goal.invariant-loop-one
invariant-loop-one l = has_template (drop l.one-index l.asked) l.id ≡ has_template l.asked l.id
