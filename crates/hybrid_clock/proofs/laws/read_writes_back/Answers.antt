use Rattle.hybrid_clock.proofs.Texts.{read_valid, read_text}
use Rattle.hybrid_clock.proofs.laws.read_writes_back.Goals as goal

pub returns : goal.returns
returns c = λ text s e. (read_valid text s e, read_text text s e)
