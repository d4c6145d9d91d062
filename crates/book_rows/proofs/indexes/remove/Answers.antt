use Rattle.std.proofs.Common.{◌∙◌}
use Rattle.book_rows.proofs.Lists.{no_key}
use Rattle.book_rows.proofs.indexes.remove.Goals as goal

pub returns-then-take : goal.returns-then-take
returns-then-take c = λ k q.
    no_key c.take.new.index c.remove.new.self c.args.key.now c.remove.ensures.updates.0 (c.take.ensures.left c.if-take.true) k q ∙ c.take.ensures.pairs k q
