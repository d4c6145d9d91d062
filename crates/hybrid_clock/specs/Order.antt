-- The order of timestamps.
use Rattle.std.specs.Cmp.Lexicographic.{slice_cmp}
use Rattle.std.specs.Ordering.{nat_cmp, on, then_cmp}
use Rattle.std.specs.declared.cmp.Ordering.{Ordering}
use Rattle.hybrid_clock.specs.declared.stamp.Stamp.{Stamp}

-- by time, then by counter, then by node
abbrev pub stamp_cmp : Stamp → Stamp → Ordering
stamp_cmp =
    then_cmp (on (λ (s : Stamp). s.millis) nat_cmp)
    (then_cmp (on (λ (s : Stamp). s.counter) nat_cmp) (on (λ (s : Stamp). s.node) (slice_cmp nat_cmp)))
