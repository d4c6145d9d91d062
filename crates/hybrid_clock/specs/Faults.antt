-- What is wrong with a text that is no timestamp's.
use Rattle.std.specs.Prelude.{◌≡◌, ◌≢◌, ◌↔◌, ℕ, ◌+◌, ◌*◌, ◌<◌, ◌≤◌, true, List, length, drop, replicate, slice_index, Err, pos}
use Rattle.jiff_core.specs.Calendar.{IsCivilDate, days_from_civil}
use Rattle.hybrid_clock.specs.declared.stamp.StampFault.{StampFault}
use Rattle.hybrid_clock.specs.declared.stamp.StampFault.TheVariants.{Length, BadByte, NoSuchMoment, BeyondWindow, ZeroNode}
use Rattle.hybrid_clock.specs.Stamp.{window}
use Rattle.hybrid_clock.specs.Reading.{form, is_allowed, two_at, four_at, read_stamp}

-- the form allows this place's byte of a text
abbrev pub Allows : List ℕ → ℕ → Type 0
Allows text at = is_allowed (slice_index form at) (slice_index text at) ≡ true

-- a text of 46 bytes has a byte at this place that the form does not allow there, and none before it
pub record IsFirstMisfit (text : List ℕ) (at : ℕ) : Type 0 where
  pub long : length text ≡ 46
  pub within : at < 46
  pub bad : Allows text at → ⊥
  pub first : (k : ℕ) → k < at → Allows text k

-- a text of 46 bytes, each one that the form allows at its place
pub record HasForm (text : List ℕ) : Type 0 where
  pub long : length text ≡ 46
  pub allowed : (k : ℕ) → k < 46 → Allows text k

-- its digits name a date of the civil calendar from 1970 on, and a time of the 24 hours of a day
pub record NamesMoment (text : List ℕ) : Type 0 where
  pub from_1970 : 1970 ≤ four_at text 0
  pub date : IsCivilDate (pos (four_at text 0)) (two_at text 5) (two_at text 8)
  pub hour : two_at text 11 < 24
  pub minute : two_at text 14 < 60
  pub second : two_at text 17 < 60

-- the moment that it names lies in this minute since 1970: there are 1,440 in each day before its date, and 60 in each hour before its own
abbrev pub IsInMinute : List ℕ → ℕ → Type 0
IsInMinute text n =
    (day : ℕ) × (days_from_civil (pos (four_at text 0)) (two_at text 5) (two_at text 8) ≡ pos day)
    × (n ≡ 1440 * day + 60 * two_at text 11 + two_at text 14)

-- it has the form, and names a moment in this minute
pub record IsMinuteOf (text : List ℕ) (n : ℕ) : Type 0 where
  pub formed : HasForm text
  pub moment : NamesMoment text
  pub minute : IsInMinute text n

-- what is wrong with a text, where nothing that is tested before it is
abbrev pub IsFaultOf : List ℕ → StampFault → Type 0
IsFaultOf text (Length n) = (n ≡ length text) × (n ≢ 46)
IsFaultOf text (BadByte at) = IsFirstMisfit text at
IsFaultOf text NoSuchMoment = HasForm text × (NamesMoment text → ⊥)
IsFaultOf text (BeyondWindow n) = IsMinuteOf text n × (window ≤ n)
IsFaultOf text ZeroNode = ((n : ℕ) × IsMinuteOf text n × (n < window)) × (drop 30 text ≡ replicate 16 48)

-- a fault is told of a text exactly where it is the first thing that is wrong with it
abbrev pub StampFaultsAreTold : Type 0
StampFaultsAreTold = (text : List ℕ) (fault : StampFault) → (read_stamp text ≡ Err fault) ↔ IsFaultOf text fault
