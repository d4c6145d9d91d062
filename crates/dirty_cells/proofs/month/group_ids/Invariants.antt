use Rattle.std.proofs.Common.{◌≡◌, ◌++◌, map}
use Rattle.std.specs.FinMap.{entries}
use Rattle.dirty_cells.proofs.month.group_ids.Given as goal

abbrev pub invariant-loop-id : goal.invariant-loop-id
invariant-loop-id l = l.ids.items ++ map (λ e. e.0) l.id-iterator ≡ map (λ e. e.0) (entries l.book.rows.groups)
