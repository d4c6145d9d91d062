use Rattle.std.proofs.Common.{arith, refl, sym, subst}
use Rattle.field_merge.specs.Latest.{CameFrom, LatestState}
use Rattle.field_merge.proofs.Coming.{came_tidied, listed_tidied}
use Rattle.field_merge.proofs.latest_messages.LatestMessages.tidy.Goals as goal

pub returns-clause-came : goal.returns-clause-came
returns-clause-came c ms came =
    came_tidied ms _ _ (subst (λ (l : LatestState). CameFrom ms l) (sym c.self.view_is) came) c.in_ok-keep_latest.ensures refl (omega arith)

pub returns-clause-latest : goal.returns-clause-latest
returns-clause-latest c ms came =
    listed_tidied ms _ _ (subst (λ (l : LatestState). CameFrom ms l) (sym c.self.view_is) came) c.in_ok-keep_latest.ensures
