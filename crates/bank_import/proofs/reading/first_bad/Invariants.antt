use Rattle.std.proofs.Common.{◌≡◌, drop}
use Rattle.bank_import.specs.Statement.{bad_from}
use Rattle.bank_import.proofs.reading.first_bad.Given as goal

abbrev pub invariant-loop-i : goal.invariant-loop-i
invariant-loop-i l = bad_from l.columns l.i (drop l.i l.fields) ≡ bad_from l.columns 0 l.fields
