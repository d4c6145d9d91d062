use Rattle.std.proofs.Common.{◌≡◌, ◌++◌, drop}
use Rattle.std.specs.List.{filter_map}
use Rattle.bank_import.specs.Wanted.{asked_at}
use Rattle.bank_import.proofs.candidates.candidates.Given as goal

abbrev pub invariant-loop-id : goal.invariant-loop-id
invariant-loop-id l = l.found.items ++ filter_map (asked_at l.book.rows l.wanted.amounts l.wanted.ids) (drop l.id-index l.id-items) ≡ filter_map (asked_at l.book.rows l.wanted.amounts l.wanted.ids) l.id-items
