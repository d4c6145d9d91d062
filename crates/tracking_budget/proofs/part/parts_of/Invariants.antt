use Rattle.std.proofs.Common.{◌≡◌, ◌++◌, drop, map}
use Rattle.tracking_budget.specs.Tracked.{tracked_of}
use Rattle.tracking_budget.specs.Parts.{part_of}
use Rattle.tracking_budget.proofs.part.parts_of.Given as goal

abbrev pub invariant-loop-category : goal.invariant-loop-category
invariant-loop-category l = l.parts.items ++ map (part_of (tracked_of l.book.rows) l.number) (drop l.category-index l.live) ≡ map (part_of (tracked_of l.book.rows) l.number) l.live
