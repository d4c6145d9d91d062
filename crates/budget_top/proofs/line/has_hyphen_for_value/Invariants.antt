use Rattle.std.proofs.Common.{◌≡◌, map, drop, false}
use Rattle.budget_top.specs.Clap.{hyphen_after}
use Rattle.budget_top.proofs.line.has_hyphen_for_value.Given as goal

abbrev pub invariant-loop-word : goal.invariant-loop-word
invariant-loop-word l =
    hyphen_after l.is_wanted (map (λ w. w.now) (drop l.word-index l.words)) ≡ hyphen_after false (map (λ w. w.now) l.words)
