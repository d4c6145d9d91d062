use Rattle.std.proofs.Common.{◌≡◌, ◌++◌, drop}
use Rattle.finite_sums.specs.Maps.{Text, text_cmp}
use Rattle.bank_import.specs.Groups.{group, with_id}
use Rattle.bank_import.proofs.groups.by_id.Given as goal

abbrev pub invariant-loop-candidate : goal.invariant-loop-candidate
invariant-loop-candidate l = (k : Text) → group text_cmp l.groups k ++ with_id k (drop l.candidate-index l.candidates) ≡ with_id k l.candidates
