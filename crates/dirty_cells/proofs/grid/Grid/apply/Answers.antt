use Rattle.dirty_cells.proofs.grid.Grid.apply.Goals as goal

pub returns-in-Ok-clause-stands : goal.returns-in-Ok-clause-stands
returns-in-Ok-clause-stands g c =
    let h = c.in-Ok.ensures.stands in
    record { sums = h.sums; groups = h.groups; order = h.order; within = h.within; cells = h.cells; window = h.window }
