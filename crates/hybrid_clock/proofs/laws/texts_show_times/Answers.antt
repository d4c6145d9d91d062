use Rattle.hybrid_clock.proofs.Writing.{texts_show_times_lem}
use Rattle.hybrid_clock.proofs.laws.texts_show_times.Goals as goal

pub returns : goal.returns
returns c = texts_show_times_lem
