use Rattle.std.proofs.Common.{◌≡◌, ℕ, List, drop}
use Rattle.std.specs.Prelude.{◌||◌}
use Rattle.std.specs.BTreeSet as set
use Rattle.finite_sums.specs.Maps.{text_cmp}
use Rattle.bank_import.specs.Wanted.{has_id}
use Rattle.bank_import.proofs.wanted.ids_of.Given as goal

abbrev pub invariant-loop-facts : goal.invariant-loop-facts
invariant-loop-facts l = (q : List ℕ) → (set.contains text_cmp l.ids q || has_id (drop l.facts-index l.records) q) ≡ has_id l.records q
