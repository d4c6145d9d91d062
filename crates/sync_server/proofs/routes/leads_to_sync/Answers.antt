use Rattle.std.proofs.Common.{◌∙◌}
use Rattle.sync_server.proofs.Routing.{leads_from}
use Rattle.sync_server.proofs.routes.leads_to_sync.Goals as goal

pub returns : goal.returns
returns c = c.leads.ensures ∙ leads_from c.args.router.now c.args.path.now c.requires
