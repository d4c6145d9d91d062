use Rattle.kept_pairs.proofs.laws.goals_keep_pairs_and_splits.Goals as goal

pub returns : goal.returns
returns c = λ rows month ws h ids added. (c.goals_are_filled.ensures ids rows month ws h).right
