use Rattle.std.proofs.Common.{◌≡◌, ◌++◌, length, drop}
use Rattle.bank_import.specs.Matching.{no_match}
use Rattle.bank_import.proofs.index.no_match.Given as goal

abbrev pub invariant-loop-facts : goal.invariant-loop-facts
invariant-loop-facts l = record {
  found : l.found.items ++ no_match (drop l.facts-index l.records) ≡ no_match l.records;
  len : length l.found.items ≡ l.facts-index;
}
