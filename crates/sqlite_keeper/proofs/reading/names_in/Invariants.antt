use Rattle.std.proofs.Common.{◌≡◌, map, take}
use Rattle.sqlite_keeper.specs.Queries.{name_in, Climb}
use Rattle.sqlite_keeper.proofs.reading.names_in.Given as goal

abbrev pub invariant-loop-row : goal.invariant-loop-row
invariant-loop-row l = (l.found.items ≡ map name_in (take l.row-index l.rows)) × Climb l.found.items
