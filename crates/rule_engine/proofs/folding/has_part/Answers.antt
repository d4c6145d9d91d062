use Rattle.std.proofs.lemmas.Bool.Decides.{same_from_decides}
use Rattle.std.proofs.lemmas.Str.Pattern.{contains_text}
use Rattle.rule_engine.proofs.Parts.{has_part-Decides}
use Rattle.rule_engine.proofs.folding.has_part.Goals as goal

pub returns : goal.returns
returns c =
    same_from_decides _ _ (contains_text c.contains.result c.args.part.now c.args.text.now c.contains.ensures.cases) (has_part-Decides c.args.part.now c.args.text.now)
