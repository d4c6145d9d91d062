use Rattle.std.proofs.Common.{◌≡◌}
use Rattle.std.specs.List.{flat_map}
use Rattle.std.specs.Vec.Iter.{into_iter_items}
use Rattle.command_lines.specs.Register.{entry_of, placed, register_of}
use Rattle.command_lines.proofs.register.placed_lines.Given as goal

abbrev pub invariant-loop-id : goal.invariant-loop-id
invariant-loop-id g l = placed (flat_map (entry_of l.book.rows) (into_iter_items l.id-iterator)) l.found.entries ≡ register_of l.book.rows l.account
