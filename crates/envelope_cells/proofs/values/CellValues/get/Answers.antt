use Rattle.std.proofs.Common.{ap, sym, ◌∙◌}
use Rattle.std.specs.FinMap as map
use Rattle.finite_sums.proofs.Maps.{get_is}
use Rattle.envelope_cells.specs.Names.{cells_total}
use Rattle.envelope_cells.proofs.Exact.{cells_same}
use Rattle.envelope_cells.proofs.values.CellValues.get.Goals as goal

pub returns : goal.returns
returns c = c.copied.ensures ∙ c.get.ensures.value ∙ sym (get_is cells_total cells_same c.self.inside.values.entries c.args.name.now) ∙ ap (λ m. map.get m c.args.name.now) c.self.view_is
