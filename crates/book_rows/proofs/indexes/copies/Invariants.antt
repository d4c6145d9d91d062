use Rattle.std.proofs.Common.{◌≡◌, ◌+◌, ◌++◌, length}
use Rattle.book_rows.proofs.indexes.copies.Given as goal

abbrev pub invariant-loop-id : goal.invariant-loop-id
invariant-loop-id g l =
    record {
      all : l.found.items ++ l.id-iterator ≡ l.ids.keys;
      cost : l.steps ≡ l.fn.steps + length l.found.items;
    }
