use Rattle.budget_top.proofs.Finding.{first_place}
use Rattle.budget_top.proofs.input.line_length.Goals as goal

pub returns : goal.returns
returns c = first_place c.args.bytes.now c.memchr.result c.memchr.ensures
