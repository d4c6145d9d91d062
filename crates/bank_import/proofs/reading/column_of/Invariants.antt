use Rattle.std.proofs.Common.{◌≡◌, drop}
use Rattle.bank_import.specs.Statement.{column_of, column_from}
use Rattle.bank_import.proofs.reading.column_of.Given as goal

abbrev pub invariant-loop-i : goal.invariant-loop-i
invariant-loop-i l = column_from l.name l.i (drop l.i l.header) ≡ column_of l.name l.header
