use Rattle.std.proofs.Common.{◌++◌, ◌∙◌, List, ℕ, ap}
use Rattle.std.proofs.lemmas.Str.{IsCharBoundary-at_seam}
use Rattle.budget_ports.proofs.latest_first.LatestFirst.of.Goals as goal

pub invariant_of-result : goal.invariant_of-result
invariant_of-result c =
    IsCharBoundary-at_seam _ c.args.key.now c.args.body.now
    (c.in_ok-push_str-2.ensures.bytes ∙ ap (λ (xs : List ℕ). xs ++ c.args.body.now) (c.in_ok-push_str.ensures.bytes ∙ ap (λ (xs : List ℕ). xs ++ c.args.key.now) c.in_ok-text.ensures.bytes))
    c.utf8.body
