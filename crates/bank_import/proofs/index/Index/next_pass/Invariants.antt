use Rattle.std.proofs.Common.{◌≡◌, ◌++◌, length, drop}
use Rattle.std.specs.BTreeSet as set
use Rattle.finite_sums.specs.Maps.{text_cmp}
use Rattle.bank_import.specs.Matching.{next_pass, run_pass}
use Rattle.bank_import.proofs.index.Index.next_pass.Given as goal

abbrev pub invariant-loop-i : goal.invariant-loop-i
invariant-loop-i l = record {
  found : l.found.items ++ run_pass l.pass l.self (λ q. set.contains text_cmp l.taken q) (drop l.i l.records) (drop l.i l.matches) ≡ next_pass l.pass l.self l.records l.matches;
  len : length l.found.items ≡ l.i;
}
