use Rattle.std.proofs.Common.{◌≡◌, ◌++◌}
use Rattle.finite_sums.specs.Maps.{Text}
use Rattle.envelope_cells.specs.Places.{ids_of_group, members_of}
use Rattle.envelope_cells.proofs.groups.members_in.Given as goal

abbrev pub invariant-loop-place : goal.invariant-loop-place
invariant-loop-place l = (g : Text) → members_of l.members g ++ ids_of_group g l.place-iterator ≡ ids_of_group g l.categories.entries
