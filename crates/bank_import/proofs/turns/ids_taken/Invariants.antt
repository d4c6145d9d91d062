use Rattle.std.proofs.Common.{◌≡◌, ℕ, List, drop}
use Rattle.std.specs.Prelude.{◌||◌}
use Rattle.std.specs.BTreeSet as set
use Rattle.finite_sums.specs.Maps.{text_cmp}
use Rattle.bank_import.specs.Matching.{somes, is_among}
use Rattle.bank_import.proofs.turns.ids_taken.Given as goal

abbrev pub invariant-loop-found : goal.invariant-loop-found
invariant-loop-found l = (q : List ℕ) → (set.contains text_cmp l.taken q || is_among (somes (drop l.found-index l.matches)) q) ≡ is_among (somes l.matches) q
