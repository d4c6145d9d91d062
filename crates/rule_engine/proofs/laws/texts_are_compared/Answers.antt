use Rattle.rule_engine.proofs.Parts.{texts_compared}
use Rattle.rule_engine.proofs.laws.texts_are_compared.Goals as goal

pub returns : goal.returns
returns c = texts_compared
