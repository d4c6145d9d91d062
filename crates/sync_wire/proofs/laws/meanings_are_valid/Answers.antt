use Rattle.sync_wire.proofs.Valid.{request_valid, response_valid, content_valid}
use Rattle.sync_wire.proofs.laws.meanings_are_valid.Goals as goal

pub returns : goal.returns
returns c = record { requests = request_valid; replies = response_valid; contents = content_valid }
