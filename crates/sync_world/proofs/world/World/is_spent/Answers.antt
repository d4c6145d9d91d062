use Rattle.std.proofs.Common.{ap, ◌∙◌, subst}
use Rattle.sync_world.specs.Promises.{KeepsPromises}
use Rattle.sync_world.specs.Whole.{WorldModel, IsWorld, world_of, nodes_of}
use Rattle.sync_world.proofs.world.World.is_spent.Goals as goal

pub returns-clause-promises : goal.returns-clause-promises
returns-clause-promises c = λ live.
    let i = c.self.inside in
    let w = world_of i.devices.items i.server i.made.items i.acknowledged.items i.kept.items i.requests.items i.replies.items in
    let holds = c.self.invariant (ap (λ (m : WorldModel). m.spent) c.self.view_is ∙ live) in
    subst (λ (m : WorldModel). KeepsPromises m.world) c.self.view_is (c.right_worlds_keep.ensures (nodes_of w) w holds.world.right)

pub returns-clause-right : goal.returns-clause-right
returns-clause-right c = λ live.
    let i = c.self.inside in
    let w = world_of i.devices.items i.server i.made.items i.acknowledged.items i.kept.items i.requests.items i.replies.items in
    let holds = c.self.invariant (ap (λ (m : WorldModel). m.spent) c.self.view_is ∙ live) in
    subst (λ (m : WorldModel). IsWorld m.world) c.self.view_is holds.world
