use Rattle.std.proofs.Common.{ap, ◌∙◌}
use Rattle.sync_world.specs.Whole.{WorldModel}
use Rattle.sync_world.proofs.Wholes.{server_is}
use Rattle.sync_world.proofs.world.World.server.Goals as goal

pub returns : goal.returns
returns c =
    let holds = c.self.invariant (ap (λ (m : WorldModel). m.spent) c.self.view_is ∙ c.requires) in
    server_is c.self.inside.server c.args.self.now.world.server holds.live (ap (λ (m : WorldModel). m.world.server) c.self.view_is)
