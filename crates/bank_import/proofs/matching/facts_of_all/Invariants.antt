use Rattle.std.proofs.Common.{◌≡◌, ◌++◌, drop, map}
use Rattle.bank_import.specs.Matching.{facts_of}
use Rattle.bank_import.proofs.matching.facts_of_all.Given as goal

abbrev pub invariant-loop-row : goal.invariant-loop-row
invariant-loop-row l = l.found.items ++ map (facts_of l.book.rows) (drop l.row-index l.rows) ≡ map (facts_of l.book.rows) l.rows
