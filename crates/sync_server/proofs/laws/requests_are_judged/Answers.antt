use Rattle.sync_server.proofs.Verdicts.{decides, is_decided}
use Rattle.sync_server.proofs.laws.requests_are_judged.Goals as goal

pub returns : goal.returns
returns c q found v = (decides q found v, is_decided q found v)
