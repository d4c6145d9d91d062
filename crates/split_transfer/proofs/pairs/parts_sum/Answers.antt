use Rattle.std.proofs.Common.{ap, ◌∙◌, rules}
use Rattle.std.specs.Int.{w128}
use Rattle.std.proofs.lemmas.Int.{to_z-of_z}
use Rattle.finite_sums.specs.Sums.{total}
use Rattle.split_transfer.proofs.Kept.{amount_at, parts_sum_is}
use Rattle.split_transfer.proofs.pairs.parts_sum.Goals as goal

pub returns-clause-sum : goal.returns-clause-sum
returns-clause-sum c =
    to_z-of_z w128 c.sum_of.result (search rules) ∙ c.sum_of.ensures.sum ∙ ap (total (amount_at c.args.book.now.rows)) (c.as_slice.ensures ∙ c.in_ok-all.ensures) ∙ parts_sum_is c.args.book.now.rows c.args.id.now
