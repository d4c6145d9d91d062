-- A source and a sink in memory.
use Rattle.std.specs.Prelude.{◌≡◌, ℕ, ◌-◌, Bool, not, ◌||◌, nat_le, List, ◌++◌, length, take, drop, min}
use Rattle.budget_ports.specs.Calls.{CallState, is_listed, answered, failed}

-- the bytes that are left, and the calls
pub record SourceState : Type 0 where
  pub left : List ℕ
  pub calls : CallState

-- the bytes that were taken, how many find room in all, and the calls
pub record SinkState : Type 0 where
  pub taken : List ℕ
  pub room : ℕ
  pub calls : CallState

-- a read gave n bytes, as many as are left and fit: it moved them from the front of what is left to the front of the buffer
pub record GivesFront (old new : SourceState) (buffer filled : List ℕ) (n : ℕ) : Type 0 where
  pub most : n ≡ min (length buffer) (length old.left)
  pub bytes : filled ≡ take n old.left ++ drop n buffer
  pub source : new ≡ record { left = drop n old.left; calls = answered old.calls }

-- a source after a call that failed: nothing has changed but the counts
abbrev pub failed_source : SourceState → SourceState
failed_source old = record old { calls = failed old.calls }

-- a sink after a call that failed: nothing has changed but the counts
abbrev pub failed_sink : SinkState → SinkState
failed_sink old = record old { calls = failed old.calls }

-- after a flush
abbrev pub flushed : SinkState → SinkState
flushed old = record old { calls = answered old.calls }

-- whether the bytes find room
abbrev pub fits : SinkState → List ℕ → Bool
fits sink bytes = nat_le (length bytes) (sink.room - length sink.taken)

-- whether a write of the bytes fails: its call is listed, or the bytes find no room
abbrev pub refuses : SinkState → List ℕ → Bool
refuses sink bytes = is_listed sink.calls || not (fits sink bytes)

-- after a write that took the bytes
abbrev pub with_taken : SinkState → List ℕ → SinkState
with_taken old bytes = record { taken = old.taken ++ bytes; room = old.room; calls = answered old.calls }
