use Rattle.sync_wire.proofs.Bodies.{request_reads_back, response_reads_back, content_reads_back}
use Rattle.sync_wire.proofs.laws.written_read_back.Goals as goal

pub returns : goal.returns
returns c = record { requests = request_reads_back; replies = response_reads_back; contents = content_reads_back }
