use Rattle.std.proofs.Common.{◌≡◌, drop}
use Rattle.command_lines.specs.CellNames.{named_by}
use Rattle.command_lines.proofs.cell_names.named_by.Given as goal

abbrev pub invariant-loop-kind : goal.invariant-loop-kind
invariant-loop-kind l = named_by (drop l.kind-index l.kinds) l.month l.name ≡ named_by l.kinds l.month l.name
