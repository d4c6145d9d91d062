use Rattle.std.proofs.Common.{◌≡◌, length, sym, ap, ◌∙◌, arith}
use Rattle.std.specs.FinMap as map
use Rattle.finite_sums.proofs.Texts.{entries-map_of}
use Rattle.book_rows.proofs.table.Table.len.Goals as goal

pub returns-clause-count : goal.returns-clause-count
returns-clause-count g c = c.len.ensures.len ∙ ap length (sym (entries-map_of c.self.inside.rows c.self.invariant.0) ∙ ap map.entries c.self.view_is)

pub returns-clause-small : goal.returns-clause-small
returns-clause-small g c =
    let e : length c.self.inside.rows.entries ≡ length (map.entries c.args.self.now) = ap length (sym (entries-map_of c.self.inside.rows c.self.invariant.0) ∙ ap map.entries c.self.view_is) in
    omega arith
