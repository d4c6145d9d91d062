-- Counts of failures.
use Rattle.std.specs.Prelude.{◌≡◌, ◌<◌, ℕ, ◌+◌, ◌-◌, ◌^◌, min, Bool, true, false}

-- one more, but a counter of 64 bits stands still at its last value
abbrev pub risen : ℕ → ℕ
risen count = min (count + 1) (2 ^ 64 - 1)

-- how often calls have failed after one more call, of which this says whether it failed
abbrev pub count_after : Bool → ℕ → ℕ
count_after true count = risen count
count_after false count = count

-- an object that can count one more failure has counted none: no call of it failed in between
pub record IsUnfailed (old new : ℕ) : Type 0 where
  pub below : old < 2 ^ 64 - 1
  pub same : new ≡ old
