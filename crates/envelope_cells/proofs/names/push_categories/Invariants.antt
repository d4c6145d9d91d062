use Rattle.std.proofs.Common.{◌≡◌, ◌++◌, drop}
use Rattle.envelope_cells.specs.NamesOf.{categories_names}
use Rattle.envelope_cells.proofs.names.push_categories.Given as goal

abbrev pub invariant-loop-id : goal.invariant-loop-id
invariant-loop-id l = l.names.items ++ categories_names l.month l.is_income (drop l.id-index l.ids) ≡ l.fn.names.items ++ categories_names l.month l.is_income l.ids
