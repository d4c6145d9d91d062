use Rattle.sync_wire.proofs.Totals.{response_found, response_fault}
use Rattle.sync_wire.proofs.response.read_response.Goals as goal

pub returns-clause-found : goal.returns-clause-found
returns-clause-found c = response_found c.args.bytes.now c.response_at.result c.response_at.ensures.value

pub returns-clause-fault : goal.returns-clause-fault
returns-clause-fault c = response_fault c.args.bytes.now c.response_at.result c.response_at.ensures.value
