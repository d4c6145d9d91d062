use Rattle.std.proofs.Common.{length}
use Rattle.field_merge.proofs.Links.{IsLookedThrough}
use Rattle.field_merge.proofs.stamps.has.Given as goal

abbrev pub invariant-back : goal.invariant-back
invariant-back l = IsLookedThrough (length l.heads) l.kept l.bucket l.stamp l.at

abbrev pub decreases-back : goal.decreases-back
decreases-back l = l.at
