-- A hybrid clock, seen as the timestamp at which it stands: a time, a counter and its own node.
use Rattle.std.specs.Prelude.{◌≡◌, ℕ, ◌+◌, ◌-◌, ◌/◌, ◌<◌, ◌⊎◌, max, nat_lt, ◌==◌, if◌then◌else◌, List, Option, None, Some, Result, Ok, Err}
use Rattle.hybrid_clock.specs.declared.stamp.Stamp.{Stamp}
use Rattle.hybrid_clock.specs.declared.clock.ClockFault.{ClockFault}
use Rattle.hybrid_clock.specs.declared.clock.ClockFault.TheVariants.{Drift, Overflow, Beyond}
use Rattle.hybrid_clock.specs.Stamp.{window}

-- a clock of this node that stands at a time and a counter
abbrev pub stands_at : List ℕ → ℕ → ℕ → Stamp
stands_at node time counter = record { millis = time; counter = counter; node = node }

-- a clock that begins after a timestamp, or at the start of 1970
abbrev pub clock_after : List ℕ → Option Stamp → Stamp
clock_after node None = stands_at node 0 0
clock_after node (Some s) = stands_at node s.millis s.counter

-- later by its time, or by its counter where the times are the same
abbrev pub IsLater : Stamp → Stamp → Type 0
IsLater old new = (old.millis < new.millis) ⊎ ((old.millis ≡ new.millis) × (old.counter < new.counter))

-- the clock goes to a time and a counter, unless the time is more than five minutes ahead of the reading or the counter is too large
abbrev pub moved : Stamp → ℕ → ℕ → ℕ → Result Stamp ClockFault
moved clock reading time counter =
    if nat_lt 300_000 (time - reading) then Err (Drift time reading)
    else (if nat_lt 65_535 counter then Err (Overflow counter)
    else Ok (stands_at clock.node time counter))

-- the counter that follows at a time which is the old one or later
abbrev pub first_counter : Stamp → ℕ → ℕ
first_counter clock time = if clock.millis == time then clock.counter + 1 else 0

-- n timestamps of one time are drawn, with counters in a row: the clock stands at the last of them
unfoldable pub draw : Stamp → ℕ → ℕ → Result Stamp ClockFault
draw clock reading n =
    if nat_lt (reading / 60_000) window
    then moved clock reading (max clock.millis reading) (first_counter clock (max clock.millis reading) + (n - 1))
    else Err (Beyond reading)

-- the counter that follows those of the clock and the message at a time, which is before neither
abbrev pub next_counter : Stamp → Stamp → ℕ → ℕ
next_counter clock message time =
    if clock.millis == time
    then (if message.millis == time then max clock.counter message.counter + 1 else clock.counter + 1)
    else (if message.millis == time then message.counter + 1 else 0)

-- the time to which a clock goes that receives a message: the greatest of its own, the reading and the message's
abbrev pub new_time : Stamp → ℕ → Stamp → ℕ
new_time clock reading message = max (max clock.millis reading) message.millis

-- a message's timestamp is received
unfoldable pub receive : Stamp → ℕ → Stamp → Result Stamp ClockFault
receive clock reading message =
    if nat_lt (reading / 60_000) window
    then (if nat_lt 300_000 (message.millis - reading) then Err (Drift message.millis reading)
    else moved clock reading (new_time clock reading message) (next_counter clock message (new_time clock reading message)))
    else Err (Beyond reading)
