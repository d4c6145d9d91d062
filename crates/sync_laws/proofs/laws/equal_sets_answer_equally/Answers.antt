use Rattle.sync_laws.proofs.Lines.{equal_answers}
use Rattle.sync_laws.proofs.laws.equal_sets_answer_equally.Goals as goal

pub returns : goal.returns
returns c = equal_answers c.lines_are_obeyed.ensures c.joined_in_any_order.ensures
