use Rattle.std.proofs.Common.{sym, ap, ◌∙◌}
use Rattle.std.specs.FinMap as map
use Rattle.finite_sums.proofs.Texts.{entries-map_of}
use Rattle.book_rows.proofs.table.Table.all.Goals as goal

pub returns : goal.returns
returns g c = sym (entries-map_of c.self.inside.rows c.self.invariant.0) ∙ ap map.entries c.self.view_is
