use Rattle.dirty_cells.proofs.Rows.{category_settles}
use Rattle.dirty_cells.proofs.row.Row.settle_category.Goals as goal

pub returns : goal.returns
returns c =
    let inside = c.self.inside in
    category_settles inside.wholes.entries inside.groups.entries inside.categories.entries c.insert.new.self.entries c.args.month c.args.cells c.args.self.now c.self.view_is c.in_ok-insert.ensures.updates.0
