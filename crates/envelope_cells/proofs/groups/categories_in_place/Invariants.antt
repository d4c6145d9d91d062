use Rattle.std.proofs.Common.{◌≡◌, []}
use Rattle.std.specs.FinMap as fin
use Rattle.envelope_cells.specs.Places.{placed, category_places}
use Rattle.envelope_cells.proofs.groups.categories_in_place.Given as goal

abbrev pub invariant-loop-id : goal.invariant-loop-id
invariant-loop-id l = placed (category_places l.id-iterator) l.found.entries ≡ placed (category_places (fin.entries l.book.rows.categories)) []
