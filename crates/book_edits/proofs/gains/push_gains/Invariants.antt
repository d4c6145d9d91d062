use Rattle.std.proofs.Common.{◌≡◌, ◌++◌, drop}
use Rattle.std.specs.Prelude.{flat_map}
use Rattle.book_edits.specs.Mappings.{gain_writes}
use Rattle.book_edits.proofs.gains.push_gains.Given as goal

abbrev pub invariant-loop-gain : goal.invariant-loop-gain
invariant-loop-gain l = l.writes.items ++ flat_map (gain_writes l.book.rows l.to) (drop l.gain-index l.gains) ≡ l.initial.writes.items ++ flat_map (gain_writes l.book.rows l.to) l.gains
