-- How long a connection waits for its other side, in milliseconds.
use Rattle.std.specs.Prelude.{ℕ, ◌-◌, min, nat_lt, nat_le, ◌&&◌, Option, None, Some, if◌then◌else◌}
use Rattle.budget_cli.specs.declared.pace.Pace.{Pace}

-- 4,096 bytes have ten seconds
abbrev pub steady : Pace
steady = record { left = 10_000; wanted = 4_096 }

-- the first byte of a reply has half a minute
abbrev pub before_reply : Pace
before_reply = record { left = 30_000; wanted = 1 }

-- how long the next call may wait of a connection of that age: until its bytes are late, or until ten minutes but for
-- ten seconds are over; where one of these is so, there is no next call
abbrev pub patience : ℕ → Pace → Option ℕ
patience age p = if nat_lt age 590_000 && nat_lt 0 p.left then Some (min (590_000 - age) p.left) else None

-- after a call that waited for so long and moved so many bytes: where these are as many as were wanted, the next 4,096 are wanted
abbrev pub after : Pace → ℕ → ℕ → Pace
after p waited moved = if nat_le p.wanted moved then steady else record { left = p.left - waited; wanted = p.wanted - moved }
