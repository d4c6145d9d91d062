use Rattle.dirty_cells.proofs.grid.Grid.sums.Goals as goal

pub returns : goal.returns
returns c = λ rows stands. stands.sums
