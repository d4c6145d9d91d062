use Rattle.std.proofs.Common.{◌∙◌, ap}
use Rattle.std.specs.BTreeMap.{values}
use Rattle.field_merge.proofs.Listed.{found_among}
use Rattle.field_merge.proofs.log.Log.winner.Goals as goal

pub returns-in_default : goal.returns-in_default
returns-in_default c =
    rw (← c.self.view_is)
    (c.winner_among.ensures.found
    ∙ found_among (values c.self.inside.messages) c.self.inside.index.entries c.args.field.now
    (c.self.invariant.index_right (ap (λ v. v.spent) c.self.view_is ∙ c.requires)) c.winner_among.ensures.ordered)
