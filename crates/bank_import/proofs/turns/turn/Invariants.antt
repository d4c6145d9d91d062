use Rattle.std.proofs.Common.{◌≡◌, None, drop}
use Rattle.std.specs.Option.{option_copied}
use Rattle.std.specs.BTreeSet as set
use Rattle.finite_sums.specs.Maps.{text_cmp}
use Rattle.bank_import.specs.Matching.{nearest, is_open}
use Rattle.bank_import.proofs.turns.turn.Given as goal

abbrev pub invariant-loop-candidate : goal.invariant-loop-candidate
invariant-loop-candidate l =
    nearest l.facts (is_open l.pass l.facts (λ q. set.contains text_cmp l.taken q)) (option_copied l.best) (drop l.candidate-index l.candidates)
    ≡ nearest l.facts (is_open l.pass l.facts (λ q. set.contains text_cmp l.taken q)) None l.candidates
