use Rattle.std.proofs.Common.{rules}
use Rattle.std.proofs.lemmas.Fn.{dedup_same}
use Rattle.field_merge.proofs.Tidying.{keeps_latest, same_field}
use Rattle.field_merge.proofs.latest_messages.keep_latest.Goals as goal

pub returns : goal.returns
returns c =
    keeps_latest c.args.came.now.items c.sort.new.self.items _ c.in_ok-sort.ensures.permutation c.in_ok-sort.ensures.sorted
    (dedup_same _ same_field _ (λ x y b f' x' y' k. search rules) _ _ c.dedup_by.ensures.filtered)
