use Rattle.std.proofs.Common.{◌≡◌, ◌++◌, drop, length}
use Rattle.bank_import.specs.Edits.{payee_writes}
use Rattle.bank_import.proofs.writing.payee_writes.Given as goal

abbrev pub invariant-loop-name : goal.invariant-loop-name
invariant-loop-name l = l.writes.items ++ payee_writes (length l.writes.items) (drop l.name-index l.names) ≡ payee_writes 0 l.names
