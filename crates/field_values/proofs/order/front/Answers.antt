use Rattle.std.proofs.Common.{◌∙◌}
use Rattle.field_values.proofs.HeadLemmas.{sixteen}
use Rattle.field_values.proofs.order.front.Goals as goal

pub returns : goal.returns
returns c = c.from_be_bytes.ensures ∙ sixteen c.args.bytes.now
