use Rattle.std.proofs.Common.{◌≡◌, drop}
use Rattle.tracking_budget.specs.Names.{named_by}
use Rattle.tracking_budget.proofs.names.named_by.Given as goal

abbrev pub invariant-loop-kind : goal.invariant-loop-kind
invariant-loop-kind l = named_by (drop l.kind-index l.kinds) l.month l.text ≡ named_by l.kinds l.month l.text
