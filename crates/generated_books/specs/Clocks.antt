-- The clock of a device that receives batches at one reading of the wall clock.
use Rattle.std.specs.Prelude.{◌≡◌, ℕ, ◌+◌, ◌*◌, ◌≤◌, List}
use Rattle.std.specs.List.{AllByRecursion}
use Rattle.hybrid_clock.specs.declared.stamp.Stamp.{Stamp}
use Rattle.field_merge.specs.declared.message.Message.{Message}
use Rattle.generated_books.specs.Generated.{stamp}

-- the time of the last message of so many transactions
abbrev pub last_time : ℕ → ℕ
last_time n = (stamp (14 + 4 * n)).millis

-- a clock that has received at most so many batches at a reading
pub record IsWithin (reading batches : ℕ) (clock : Stamp) : Type 0 where
  pub time : clock.millis ≤ reading
  pub counter : clock.counter ≤ batches

-- no message is past the reading, and each has the counter 0
pub record IsBy (reading : ℕ) (s : Stamp) : Type 0 where
  pub time : s.millis ≤ reading
  pub counter : s.counter ≡ 0

abbrev pub AreBy : ℕ → List Message → Type 0
AreBy reading = AllByRecursion (λ m. IsBy reading m.stamp)
