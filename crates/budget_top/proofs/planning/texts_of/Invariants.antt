use Rattle.std.proofs.Common.{◌≡◌, map, take, IsUtf8}
use Rattle.std.specs.List.{All}
use Rattle.budget_top.proofs.planning.texts_of.Given as goal

abbrev pub invariant-loop-word : goal.invariant-loop-word
invariant-loop-word l =
    (map (λ t. t.now) l.texts.items ≡ take l.word-index l.words) × All (λ t. IsUtf8 t.now) l.texts.items
