use Rattle.hybrid_clock.proofs.TextOrder.{text_order}
use Rattle.hybrid_clock.proofs.laws.order_of_texts.Goals as goal

pub returns : goal.returns
returns c = text_order
