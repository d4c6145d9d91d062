use Rattle.std.proofs.Common.{ap, ◌∙◌, to_z, of_z}
use Rattle.std.specs.Int.{w128}
use Rattle.std.specs.FinMap as map
use Rattle.std.proofs.lemmas.Int.{to_z-of_z}
use Rattle.finite_sums.proofs.Maps.{one_put}
use Rattle.envelope_cells.specs.Names.{cells_total}
use Rattle.envelope_cells.proofs.Exact.{cells_same}
use Rattle.envelope_cells.proofs.values.CellValues.put.Goals as goal

pub returns : goal.returns
returns c =
    one_put cells_total cells_same c.self.inside.values.entries c.insert.new.self.entries c.args.name (to_z w128 (of_z w128 c.args.value)) c.in_ok-insert.ensures.updates.0
    ∙ ap (λ m. map.insert m c.args.name (to_z w128 (of_z w128 c.args.value))) c.self.view_is
    ∙ ap (map.insert c.args.self.now c.args.name) (to_z-of_z w128 c.args.value c.ranges.value)
