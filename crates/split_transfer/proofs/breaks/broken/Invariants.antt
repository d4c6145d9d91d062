use Rattle.std.proofs.Common.{◌≡◌, ◌++◌, string_bytes}
use Rattle.std.specs.Prelude.{flat_map}
use Rattle.split_transfer.specs.Broken.{told_of, broken}
use Rattle.split_transfer.proofs.breaks.broken.Given as goal

abbrev pub invariant-loop-id : goal.invariant-loop-id
invariant-loop-id l = string_bytes l.text ++ flat_map (told_of l.book.rows) l.id-iterator ≡ broken l.book.rows
