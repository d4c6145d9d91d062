-- What a clock will give.
use Rattle.std.specs.Prelude.{◌≡◌, ℕ, ◌-◌, List, [], ◌∷◌, length, drop, slice_index, slice_index_or, Option, None, Some, ⊤}

-- the readings to come, and the one that each call after them gives
pub record Readings : Type 0 where
  pub to_come : List ℕ
  pub after_them : ℕ

-- a list of readings, and then its last one again
abbrev pub all_then_last : List ℕ → Readings
all_then_last readings = record { to_come = readings; after_them = slice_index readings (length readings - 1) }

-- the reading that the next call gives
abbrev pub next_reading : Readings → ℕ
next_reading readings = slice_index_or readings.to_come 0 readings.after_them

-- what is to come after the next call
abbrev pub rest_of : Readings → Readings
rest_of readings = record readings { to_come = drop 1 readings.to_come }

-- these readings were given, one after the other
abbrev pub TakesAll : Readings → Readings → List ℕ → Type 0
TakesAll old new [] = new ≡ old
TakesAll old new (reading ∷ later) = (reading ≡ next_reading old) × TakesAll (rest_of old) new later

-- the same, where the clock tells
abbrev pub Takes : Option Readings → Option Readings → List ℕ → Type 0
Takes None new given = ⊤
Takes (Some old) None given = ⊥
Takes (Some old) (Some new) given = TakesAll old new given
