use Rattle.std.proofs.Common.{◌≡◌, ◌++◌, drop, length}
use Rattle.bank_import.specs.Edits.{records_writes}
use Rattle.bank_import.proofs.making.push_records.Given as goal

abbrev pub invariant-loop-i : goal.invariant-loop-i
invariant-loop-i l =
    l.writes.items ++ records_writes l.book.rows l.names (length l.writes.items) (drop l.i l.drafts) (drop l.i l.found)
    ≡ l.fn.writes.items ++ records_writes l.book.rows l.names (length l.fn.writes.items) l.drafts l.found
