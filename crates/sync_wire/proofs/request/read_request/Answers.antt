use Rattle.sync_wire.proofs.Totals.{request_found, request_fault}
use Rattle.sync_wire.proofs.request.read_request.Goals as goal

pub returns-clause-found : goal.returns-clause-found
returns-clause-found c = request_found c.args.bytes.now c.request_at.result c.request_at.ensures.value

pub returns-clause-fault : goal.returns-clause-fault
returns-clause-fault c = request_fault c.args.bytes.now c.request_at.result c.request_at.ensures.value
