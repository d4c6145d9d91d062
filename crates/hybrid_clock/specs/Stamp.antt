-- Timestamps and the texts that they are written as.
use Rattle.std.specs.Prelude.{ℕ, ◌+◌, ◌*◌, ◌/◌, ◌%◌, ◌<◌, ◌≤◌, List, [], ◌∷◌, ◌++◌, nat_lt, if◌then◌else◌}
use Rattle.hybrid_clock.specs.declared.stamp.Stamp.{Stamp}
use Rattle.hybrid_clock.specs.Calendar.{Day, day_of}
use Rattle.hybrid_clock.specs.Node.{IsNode}

-- timestamps lie in the minutes below 3 to the 16, which end with 2051-11-05T13:20
abbrev pub window : ℕ
window = 43_046_721

-- what a timestamp is
pub record IsStamp (s : Stamp) : Type 0 where
  pub within : s.millis < 60_000 * window
  pub counter : s.counter ≤ 65_535
  pub node : IsNode s.node

-- a number in two decimal digits, before the rest
abbrev pub two : ℕ → List ℕ → List ℕ
two n rest = (48 + n / 10) ∷ (48 + n % 10) ∷ rest

-- a number in three decimal digits, before the rest
abbrev pub three : ℕ → List ℕ → List ℕ
three n rest = (48 + n / 100) ∷ (48 + n / 10 % 10) ∷ (48 + n % 10) ∷ rest

-- a number in four decimal digits, before the rest
abbrev pub four : ℕ → List ℕ → List ℕ
four n rest = (48 + n / 1000) ∷ (48 + n / 100 % 10) ∷ (48 + n / 10 % 10) ∷ (48 + n % 10) ∷ rest

-- an upper-case hexadecimal digit: `0` is 48, and `A` is 65
abbrev pub hex_digit : ℕ → ℕ
hex_digit n = if nat_lt n 10 then 48 + n else 55 + n

-- a number in four hexadecimal digits, before the rest
abbrev pub hex : ℕ → List ℕ → List ℕ
hex n rest = hex_digit (n / 4096) ∷ hex_digit (n / 256 % 16) ∷ hex_digit (n / 16 % 16) ∷ hex_digit (n % 16) ∷ rest

-- `YYYY-MM-DDThh:mm:ss.sssZ-XXXX-`: a date, the milliseconds of its day, and a counter
unfoldable pub head_text : ℕ → ℕ → ℕ → ℕ → ℕ → List ℕ
head_text year month day millis counter =
    four year (45 ∷ two month (45 ∷ two day (84 ∷ two (millis / 3_600_000) (58 ∷ two (millis / 60_000 % 60) (58 ∷
    two (millis / 1000 % 60) (46 ∷ three (millis % 1000) (90 ∷ 45 ∷ hex counter (45 ∷ []))))))))

-- the 46 characters of a timestamp
unfoldable pub stamp_text : Stamp → List ℕ
stamp_text s =
    let day : Day = day_of (s.millis / 86_400_000) in
    head_text day.year day.month day.day (s.millis % 86_400_000) s.counter ++ s.node
