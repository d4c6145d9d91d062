use Rattle.std.proofs.Common.{◌≡◌, ℕ, ℤ, ◌++◌, drop}
use Rattle.bank_import.specs.Groups.{group, of_span, span_cmp}
use Rattle.bank_import.proofs.groups.by_span.Given as goal

abbrev pub invariant-loop-candidate : goal.invariant-loop-candidate
invariant-loop-candidate l = (amount : ℤ) (at : ℕ) → group span_cmp l.groups (amount, at) ++ of_span amount at (drop l.candidate-index l.candidates) ≡ of_span amount at l.candidates
