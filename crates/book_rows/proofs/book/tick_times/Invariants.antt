use Rattle.std.proofs.Common.{◌≡◌, ◌+◌}
use Rattle.book_rows.proofs.book.tick_times.Given as goal

abbrev pub invariant-loop-i : goal.invariant-loop-i
invariant-loop-i g l = l.steps ≡ l.fn.steps + l.i
