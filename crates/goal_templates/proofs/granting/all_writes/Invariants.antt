use Rattle.std.proofs.Common.{◌≡◌, ◌++◌, drop}
use Rattle.std.specs.Prelude.{flat_map}
use Rattle.goal_templates.specs.Goals.{grant_writes}
use Rattle.goal_templates.proofs.granting.all_writes.Given as goal

abbrev pub invariant-loop-grant : goal.invariant-loop-grant
invariant-loop-grant l = l.writes.items ++ flat_map (grant_writes l.book.rows l.month) (drop l.grant-index l.grants) ≡ flat_map (grant_writes l.book.rows l.month) l.grants
