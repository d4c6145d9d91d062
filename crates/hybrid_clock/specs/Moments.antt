-- The moments from which on messages are asked for.
use Rattle.std.specs.Prelude.{◌≡◌, ℕ, ◌*◌, ◌<◌, nat_le, List, replicate}
use Rattle.std.specs.Ordering.{nat_cmp, is_gt}
use Rattle.std.specs.Cmp.Lexicographic.{slice_cmp}
use Rattle.hybrid_clock.specs.declared.stamp.Stamp.{Stamp}
use Rattle.hybrid_clock.specs.Stamp.{IsStamp, stamp_text, window}
use Rattle.hybrid_clock.specs.Clock.{stands_at}

-- the text of a moment, by its milliseconds: the counter is 0, and the node is `0` alone, which no device has
abbrev pub moment_text : ℕ → List ℕ
moment_text t = stamp_text (stands_at (replicate 16 48) t 0)

-- the text of a timestamp is greater than that of a moment exactly where the moment isn't later than it
abbrev pub MomentsAreInOrder : Type 0
MomentsAreInOrder = (s : Stamp) (t : ℕ) → IsStamp s → t < 60_000 * window → is_gt (slice_cmp nat_cmp (stamp_text s) (moment_text t)) ≡ nat_le t s.millis
