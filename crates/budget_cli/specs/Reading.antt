-- The readings of the system's clock.
use Rattle.std.specs.Prelude.{ℕ, ◌/◌, ◌^◌, nat_lt, Option, None, Some, if◌then◌else◌}
use Rattle.std.specs.Time.{system_time_nanos}
use Rattle.std.specs.declared.time.SystemTime.{SystemTime}

-- the whole milliseconds of a time since 1970
abbrev pub millis_of : SystemTime → ℕ
millis_of time = system_time_nanos time / 1_000_000

-- the reading at a time: its milliseconds, or the last reading again where there is no time or the milliseconds need more than 64 bits
abbrev pub reading_at : Option SystemTime → ℕ → ℕ
reading_at None last = last
reading_at (Some time) last = if nat_lt (millis_of time) (2 ^ 64) then millis_of time else last
