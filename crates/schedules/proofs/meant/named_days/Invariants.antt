use Rattle.std.proofs.Common.{take}
use Rattle.std.specs.List.{list_any}
use Rattle.schedules.specs.Days.{is_at}
use Rattle.schedules.proofs.Tabled.{HasSoFar}
use Rattle.schedules.proofs.meant.named_days.Given as goal

abbrev pub invariant-loop-pattern : goal.invariant-loop-pattern
invariant-loop-pattern l = HasSoFar l.named l.last (λ m. list_any (is_at m) (take l.pattern-index l.patterns))
