-- The records of a group among entries, and entries above a place.
use Rattle.std.proofs.Common.{◌≡◌, List, map, filter, Less}
use Rattle.std.specs.List.{AllByRecursion}
use Rattle.budget_ports.specs.declared.keeper.Record.{Record}
use Rattle.budget_ports.specs.Contents.{Text, Place, place_cmp, is_in, of_entry}

-- the records of a group among entries
abbrev pub of_group : Text → Text → List (Place × Text) → List Record
of_group group after es = map of_entry (filter (is_in group after) es)

-- each entry stands above a place
abbrev pub Above : Place → List (Place × Text) → Type 0
Above p = AllByRecursion (λ e. place_cmp p e.0 ≡ Less)
