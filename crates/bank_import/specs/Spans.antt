-- Spans of sixteen days, and which candidates a record of such a span may match.
use Rattle.std.specs.Prelude.{ℕ, ◌+◌, ◌-◌, ◌/◌, nat_le, Bool, false, ◌&&◌, ℤ, pos, negsuc, Option, Some, None}

-- a day's number, where days before 1970 count as its first
abbrev pub counted : ℤ → ℕ
counted (pos n) = n
counted (negsuc n) = 0

-- the span of a day
abbrev pub span : ℤ → ℕ
span day = counted day / 16

-- the first and the last span that has a day at most seven from this one
abbrev pub first_span : ℤ → ℕ
first_span day = (counted day - 7) / 16

abbrev pub last_span : ℤ → ℕ
last_span day = (counted day + 7) / 16

-- a span may have a day at most seven from this one
abbrev pub reaches : Option ℤ → ℕ → Bool
reaches None s = false
reaches (Some day) s = nat_le (first_span day) s && nat_le s (last_span day)
