use Rattle.sync_wire.proofs.Readings.{outline_reads, content_reads}
use Rattle.sync_wire.proofs.laws.envelopes_are_read.Goals as goal

pub returns : goal.returns
returns c = record { fields = outline_reads; contents = content_reads }
