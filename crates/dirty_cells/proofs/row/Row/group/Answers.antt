use Rattle.std.proofs.Common.{None, ap, ◌∙◌}
use Rattle.std.specs.Prelude.{unwrap_or}
use Rattle.dirty_cells.specs.Rows.{group_by}
use Rattle.dirty_cells.proofs.Rows.{group_is}
use Rattle.dirty_cells.proofs.row.Row.group.Goals as goal

pub returns : goal.returns
returns c =
    let inside = c.self.inside in
    c.unwrap_or.ensures ∙ ap (λ o. unwrap_or o (group_by (λ k. None))) (c.copied.ensures ∙ c.get.ensures.value)
    ∙ group_is inside.wholes.entries inside.groups.entries inside.categories.entries c.args.self.now c.self.view_is c.args.month
