use Rattle.sync_wire.proofs.Plain.{plain_request, plain_response, plain_content}
use Rattle.sync_wire.proofs.laws.plain_writes_back.Goals as goal

pub returns : goal.returns
returns c = record { requests = plain_request; replies = plain_response; contents = plain_content }
