use Rattle.std.proofs.Common.{◌∙◌, ap, codes}
use Rattle.std.specs.Str.{bytes_eq}
use Rattle.sync_server.proofs.Routing.{no_text}
use Rattle.sync_server.proofs.routes.Routes.has_sync.Goals as goal

pub returns-in-Ok : goal.returns-in-Ok
returns-in-Ok c = c.leads_to_sync.ensures ∙ ap (λ path. bytes_eq path (codes "/sync/sync")) c.in-Ok.ensures.cases.0

pub returns-in-Err : goal.returns-in-Err
returns-in-Err c = no_text c.args.path.now c.in-Err.ensures.cases.0
