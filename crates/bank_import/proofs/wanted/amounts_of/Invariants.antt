use Rattle.std.proofs.Common.{◌≡◌, ℤ, drop}
use Rattle.std.specs.Prelude.{◌||◌}
use Rattle.std.specs.Ordering.{int_cmp}
use Rattle.std.specs.BTreeSet as set
use Rattle.bank_import.specs.Wanted.{has_amount}
use Rattle.bank_import.proofs.wanted.amounts_of.Given as goal

abbrev pub invariant-loop-facts : goal.invariant-loop-facts
invariant-loop-facts l = (amount : ℤ) → (set.contains int_cmp l.amounts amount || has_amount (drop l.facts-index l.records) amount) ≡ has_amount l.records amount
