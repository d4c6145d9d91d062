use Rattle.sync_laws.proofs.Plans.{plans_meet_so}
use Rattle.sync_laws.proofs.laws.plans_meet.Goals as goal

pub returns : goal.returns
returns c = plans_meet_so c.contents_are_kept.ensures
