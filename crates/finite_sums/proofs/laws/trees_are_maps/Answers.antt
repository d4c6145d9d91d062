use Rattle.finite_sums.proofs.Texts.{trees_are_maps_lem}
use Rattle.finite_sums.proofs.laws.trees_are_maps.Goals as goal

pub returns : goal.returns
returns g c = trees_are_maps_lem _
