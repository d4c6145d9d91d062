use Rattle.std.proofs.Common.{◌∙◌}
use Rattle.hybrid_clock.proofs.Pieces.{rest_of}
use Rattle.hybrid_clock.proofs.parse.node_of.Goals as goal

pub returns : goal.returns
returns c = c.copy_from_slice.ensures.after ∙ rest_of 30 16 c.args.text.now c.told-text
