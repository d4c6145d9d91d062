-- What the laws on timestamps and their texts say.
use Rattle.std.specs.Prelude.{◌≡◌, ℕ, ◌+◌, ◌-◌, ◌/◌, ◌%◌, ◌<◌, ◌≤◌, max, false, List, ◌++◌, length, drop, replicate, Option, None, Some, Ok, Err, IsTrue, pos}
use Rattle.std.specs.List.{list_all}
use Rattle.std.specs.Char.{is_ascii_alphanumeric}
use Rattle.std.specs.Ordering.{nat_cmp}
use Rattle.std.specs.Cmp.Lexicographic.{slice_cmp}
use Rattle.jiff_core.specs.Calendar.{IsCivilDate, days_from_civil}
use Rattle.hybrid_clock.specs.declared.stamp.Stamp.{Stamp}
use Rattle.hybrid_clock.specs.Calendar.{day_of}
use Rattle.hybrid_clock.specs.Stamp.{IsStamp, stamp_text, window}
use Rattle.hybrid_clock.specs.Node.{IsNode, is_zeros, node_of}
use Rattle.hybrid_clock.specs.declared.clock.ClockFault.TheVariants.{Drift, Overflow, Beyond}
use Rattle.hybrid_clock.specs.Clock.{clock_after, stands_at, draw, receive}
use Rattle.hybrid_clock.specs.Reading.{two_at, three_at, four_at, hex_at, read_stamp}
use Rattle.hybrid_clock.specs.Order.{stamp_cmp}

-- the day with this number is a date of the civil calendar, which counts it by the same number
pub record IsDateOf (n : ℕ) : Type 0 where
  pub calendar : IsCivilDate (pos (day_of n).year) (day_of n).month (day_of n).day
  pub number : days_from_civil (pos (day_of n).year) (day_of n).month (day_of n).day ≡ pos n

-- the day of each timestamp is a date of the civil calendar, with as many days since 1970 as the milliseconds make
abbrev pub DatesAreCivil : Type 0
DatesAreCivil = (s : Stamp) → IsStamp s → IsDateOf (s.millis / 86_400_000)

-- which texts name a node, and which node
pub record NodesAreNamed : Type 0 where
  -- a text names a node: it is one, and it is that text with `0` on its left
  pub names : (text node : List ℕ) → node_of text ≡ Ok node → IsNode node × ((zeros : ℕ) × (node ≡ replicate zeros 48 ++ text))
  -- each text of one to sixteen letters and digits, not all of them `0`, names one
  pub all : (text : List ℕ) → 0 < length text → length text ≤ 16 → IsTrue (list_all is_ascii_alphanumeric text) → is_zeros text ≡ false → (node : List ℕ) × (node_of text ≡ Ok node)
  -- nothing but `0` names none
  pub no_zeros : (zeros : ℕ) (node : List ℕ) → node_of (replicate zeros 48) ≡ Ok node → ⊥
  -- each node is named by its own characters
  pub reads_back : (node : List ℕ) → IsNode node → node_of node ≡ Ok node

-- where a clock goes that draws timestamps at a reading in the window, or receives a message at one
pub record ClocksMove : Type 0 where
  -- a reading that is later than the clock: n timestamps of the reading are drawn, whose counters begin at 0
  pub draws : (clock : Stamp) (reading n : ℕ) → reading / 60_000 < window → clock.millis < reading → 1 ≤ n → n ≤ 65_536 → draw clock reading n ≡ Ok (stands_at clock.node reading (n - 1))
  -- a reading that is the clock's time, or at most five minutes behind it: the n that follow at that time are drawn, while there are counters
  pub goes_on : (clock : Stamp) (reading n : ℕ) → reading / 60_000 < window → reading ≤ clock.millis → clock.millis ≤ reading + 300_000 → 1 ≤ n → clock.counter + n ≤ 65_535 → draw clock reading n ≡ Ok (stands_at clock.node clock.millis (clock.counter + n))
  -- a reading that is later than the clock and the message: the clock goes to it
  pub receives : (clock message : Stamp) (reading : ℕ) → reading / 60_000 < window → clock.millis < reading → message.millis < reading → receive clock reading message ≡ Ok (stands_at clock.node reading 0)
  -- a message that is later than the clock, and ahead of the reading by at most five minutes: the clock goes behind the message
  pub goes_behind : (clock message : Stamp) (reading : ℕ) → reading / 60_000 < window → clock.millis < message.millis → reading ≤ message.millis → message.millis ≤ reading + 300_000 → message.counter < 65_535 → receive clock reading message ≡ Ok (stands_at clock.node message.millis (message.counter + 1))
  -- a clock that is later than the message, and ahead of the reading by at most five minutes: it keeps its time
  pub keeps_time : (clock message : Stamp) (reading : ℕ) → reading / 60_000 < window → message.millis < clock.millis → reading ≤ clock.millis → clock.millis ≤ reading + 300_000 → clock.counter < 65_535 → receive clock reading message ≡ Ok (stands_at clock.node clock.millis (clock.counter + 1))
  -- a message of the clock's own time: the clock goes behind the greater counter of both
  pub keeps_both : (clock message : Stamp) (reading : ℕ) → reading / 60_000 < window → message.millis ≡ clock.millis → reading ≤ clock.millis → clock.millis ≤ reading + 300_000 → max clock.counter message.counter < 65_535 → receive clock reading message ≡ Ok (stands_at clock.node clock.millis (max clock.counter message.counter + 1))

-- where a clock begins
pub record ClocksBegin : Type 0 where
  -- it has its own node, whosever message was the last
  pub own : (node : List ℕ) (last : Option Stamp) → (clock_after node last).node ≡ node
  -- after a message it stands at the time and the counter of that one
  pub after : (node : List ℕ) (s : Stamp) → ((clock_after node (Some s)).millis ≡ s.millis) × ((clock_after node (Some s)).counter ≡ s.counter)
  -- without one it stands at the start of 1970 with the counter 0
  pub first : (node : List ℕ) → ((clock_after node None).millis ≡ 0) × ((clock_after node None).counter ≡ 0)

-- which draws are refused, and why
pub record DrawsAreRefused : Type 0 where
  -- a reading past the window
  pub beyond : (clock : Stamp) (reading n : ℕ) → window ≤ reading / 60_000 → draw clock reading n ≡ Err (Beyond reading)
  -- else a clock that is ahead of the reading by more than five minutes, whatever its counter
  pub drift : (clock : Stamp) (reading n : ℕ) → reading / 60_000 < window → reading + 300_000 < clock.millis → draw clock reading n ≡ Err (Drift clock.millis reading)
  -- else, at the clock's own time, a last counter that there isn't
  pub overflow : (clock : Stamp) (reading n : ℕ) → reading / 60_000 < window → reading ≤ clock.millis → clock.millis ≤ reading + 300_000 → 1 ≤ n → 65_535 < clock.counter + n → draw clock reading n ≡ Err (Overflow (clock.counter + n))

-- which messages are refused, and why
pub record ReceivesAreRefused : Type 0 where
  -- a reading past the window
  pub beyond : (clock message : Stamp) (reading : ℕ) → window ≤ reading / 60_000 → receive clock reading message ≡ Err (Beyond reading)
  -- else a message that is ahead of the reading by more than five minutes, whatever the clock
  pub message_drift : (clock message : Stamp) (reading : ℕ) → reading / 60_000 < window → reading + 300_000 < message.millis → receive clock reading message ≡ Err (Drift message.millis reading)
  -- else a clock that is so far ahead, whatever the counters
  pub clock_drift : (clock message : Stamp) (reading : ℕ) → reading / 60_000 < window → message.millis ≤ reading + 300_000 → reading + 300_000 < clock.millis → receive clock reading message ≡ Err (Drift clock.millis reading)
  -- else a counter that there isn't: behind a message that is later than the clock
  pub behind : (clock message : Stamp) (reading : ℕ) → reading / 60_000 < window → clock.millis < message.millis → reading ≤ message.millis → message.millis ≤ reading + 300_000 → 65_535 ≤ message.counter → receive clock reading message ≡ Err (Overflow (message.counter + 1))
  -- the clock's own, where it is later than the message
  pub own : (clock message : Stamp) (reading : ℕ) → reading / 60_000 < window → message.millis < clock.millis → reading ≤ clock.millis → clock.millis ≤ reading + 300_000 → 65_535 ≤ clock.counter → receive clock reading message ≡ Err (Overflow (clock.counter + 1))
  -- or the greater of both, where they have one time
  pub both : (clock message : Stamp) (reading : ℕ) → reading / 60_000 < window → message.millis ≡ clock.millis → reading ≤ clock.millis → clock.millis ≤ reading + 300_000 → 65_535 ≤ max clock.counter message.counter → receive clock reading message ≡ Err (Overflow (max clock.counter message.counter + 1))

-- a text's digits write this time: the year, month and day of its day since 1970, the hour of that day, 0 to 23, and the minute, the second and the millisecond in it
pub record ShowsTime (text : List ℕ) (millis : ℕ) : Type 0 where
  pub calendar : IsCivilDate (pos (four_at text 0)) (two_at text 5) (two_at text 8)
  pub date : days_from_civil (pos (four_at text 0)) (two_at text 5) (two_at text 8) ≡ pos (millis / 86_400_000)
  pub hour : two_at text 11 ≡ millis / 3_600_000 % 24
  pub minute : two_at text 14 ≡ millis / 60_000 % 60
  pub second : two_at text 17 ≡ millis / 1000 % 60
  pub millisecond : three_at text 20 ≡ millis % 1000

-- the text of each timestamp shows its time, its counter in hexadecimal digits, and its node
abbrev pub TextsShowTimes : Type 0
TextsShowTimes = (s : Stamp) → IsStamp s → ShowsTime (stamp_text s) s.millis × (hex_at (stamp_text s) 25 ≡ s.counter) × (drop 30 (stamp_text s) ≡ s.node)

-- each timestamp is read back from its text
abbrev pub StampsReadBack : Type 0
StampsReadBack = (s : Stamp) → IsStamp s → read_stamp (stamp_text s) ≡ Ok s

-- each text that is read is read as a timestamp, whose text it is
abbrev pub StampsWriteBack : Type 0
StampsWriteBack = (text : List ℕ) (s : Stamp) → read_stamp text ≡ Ok s → IsStamp s × (stamp_text s ≡ text)

-- timestamps are ordered as their texts are byte by byte
abbrev pub StampsAreInOrder : Type 0
StampsAreInOrder = (a b : Stamp) → IsStamp a → IsStamp b → slice_cmp nat_cmp (stamp_text a) (stamp_text b) ≡ stamp_cmp a b
