use Rattle.std.proofs.Common.{sym, ap, ◌∙◌}
use Rattle.std.specs.FinMap as map
use Rattle.finite_sums.proofs.Texts.{get-map_of}
use Rattle.book_rows.proofs.table.Table.get.Goals as goal

pub returns : goal.returns
returns g c = c.get.ensures.value ∙ sym (get-map_of c.self.inside.rows c.args.id.now) ∙ ap (λ m. map.get m c.args.id.now) c.self.view_is
