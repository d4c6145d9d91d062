use Rattle.std.proofs.Common.{◌≡◌, map, take}
use Rattle.budget_ports.specs.Keeper.{Rise}
use Rattle.sqlite_keeper.specs.Queries.{record_in}
use Rattle.sqlite_keeper.proofs.reading.records_in.Given as goal

abbrev pub invariant-loop-row : goal.invariant-loop-row
invariant-loop-row l = (l.found.items ≡ map record_in (take l.row-index l.rows)) × Rise l.found.items
