use Rattle.sync_laws.proofs.Asking.{requests_so}
use Rattle.sync_laws.proofs.laws.requests_ask.Goals as goal

pub returns : goal.returns
returns c = requests_so c.answers_tell.ensures
