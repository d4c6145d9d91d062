use Rattle.std.proofs.Common.{◌≡◌, drop}
use Rattle.goal_templates.specs.Sharing.{has_share}
use Rattle.goal_templates.proofs.granting.has_share.Given as goal

abbrev pub invariant-loop-share : goal.invariant-loop-share
invariant-loop-share l = has_share (drop l.share-index l.shares) l.id ≡ has_share l.shares l.id
