use Rattle.std.proofs.Common.{◌≡◌, ◌++◌, drop}
use Rattle.tracking_budget.specs.CellOf.{live_on}
use Rattle.tracking_budget.proofs.live.push_live.Given as goal

abbrev pub invariant-loop-id : goal.invariant-loop-id
invariant-loop-id l = l.live.items ++ live_on l.is_income (drop l.id-index l.ids) ≡ l.fn.live.items ++ live_on l.is_income l.ids
