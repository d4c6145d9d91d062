use Rattle.hybrid_clock.proofs.Writing.{text_reads}
use Rattle.hybrid_clock.proofs.laws.text_reads_back.Goals as goal

pub returns : goal.returns
returns c = text_reads
