use Rattle.std.proofs.Common.{◌≡◌, ◌+◌, drop, map}
use Rattle.std.specs.List.{AllByRecursion}
use Rattle.csv.specs.Records.{fields_of}
use Rattle.bank_import.specs.Statement.{read_records, HasNumbers}
use Rattle.bank_import.proofs.Records.{prepend}
use Rattle.bank_import.proofs.reading.read_records.Given as goal

abbrev pub invariant-loop-i : goal.invariant-loop-i
invariant-loop-i l = record {
  rest : prepend l.found.items (read_records l.columns l.width (l.i + 1) (map fields_of (drop l.i l.rows))) ≡ read_records l.columns l.width 1 (map fields_of l.rows);
  valid : AllByRecursion HasNumbers l.found.items;
}
