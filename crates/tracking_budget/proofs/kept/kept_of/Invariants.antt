use Rattle.tracking_budget.specs.Tracked.{tracked_of}
use Rattle.tracking_budget.proofs.GoingBack.{IsOnWay}
use Rattle.tracking_budget.proofs.kept.kept_of.Given as goal

abbrev pub invariant-back : goal.invariant-back
invariant-back l = IsOnWay (tracked_of l.book.rows) l.is_income l.id l.number l.at l.sum

abbrev pub decreases-back : goal.decreases-back
decreases-back l = l.at
