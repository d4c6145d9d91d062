-- A device: its state, and what an edit, an undo, a redo and received messages make of it.
use Rattle.std.specs.Prelude.{◌≡◌, ◌⊎◌, ℕ, ◌-◌, ◌<◌, ◌≤◌, List, [], ◌∷◌, length, map, Bool, true, false, nat_lt, if◌then◌else◌, Option, None, Some, Result, Ok, Err}
use Rattle.std.specs.List.{AllByRecursion}
use Rattle.std.specs.Ordering.{is_lt}
use Rattle.hybrid_clock.specs.declared.stamp.Stamp.{Stamp}
use Rattle.hybrid_clock.specs.declared.clock.ClockFault.{ClockFault}
use Rattle.hybrid_clock.specs.Order.{stamp_cmp}
use Rattle.hybrid_clock.specs.Clock.{clock_after, draw, receive}
use Rattle.budget_ports.specs.declared.keeper.Record.{Record}
use Rattle.field_merge.specs.declared.message.Message.{Message}
use Rattle.budget_ports.specs.Keeper.{HaveKeys}
use Rattle.field_merge.specs.Log.{join, last_stamp, value_in}
use Rattle.kept_messages.specs.Records.{record_of}
use Rattle.kept_messages.specs.News.{new_in}
use Rattle.device_core.specs.declared.edit.Edit.{Edit}
use Rattle.book_rows.specs.declared.write.Write.{Write}
use Rattle.book_rows.specs.declared.fault.EditFault.{EditFault}
use Rattle.book_rows.specs.declared.fault.EditFault.TheVariants.{TooManyWrites, NothingToUndo, NothingToRedo}
use Rattle.dirty_cells.specs.declared.grid.Grid.{Grid}
use Rattle.dirty_cells.specs.Stands.{StandsFor, is_between}
use Rattle.edit_history.specs.declared.before.Before.{Before}
use Rattle.edit_history.specs.declared.history.Turn.{Turn}
use Rattle.edit_history.specs.declared.history.Turn.TheVariants.{New, Undo, Redo}
use Rattle.edit_history.specs.Undo.{entry_over, undo_writes}
use Rattle.edit_history.specs.History.{Entries, no_entries, latest_of, after}
use Rattle.device_core.specs.declared.edit.LineRefusal.{LineRefusal}
use Rattle.device_core.specs.declared.edit.LineRefusal.TheVariants.{Edit as OfEdit, Clock as OfClock, NoMemory}
use Rattle.device_core.specs.declared.known.Known.{Known}
use Rattle.device_core.specs.Edits.{writes_of}
use Rattle.device_core.specs.Books.{rows_of}
use Rattle.device_core.specs.Covering.{covered_by, IsWithin}
use Rattle.device_core.specs.Known.{IsKnown}
use Rattle.device_core.specs.Placing.{stamped, made_ids}

-- the message set, the timestamp at which the clock stands, with the device's own node, and what can be undone and redone
pub record State : Type 0 where
  pub messages : List Message
  pub clock : Stamp
  pub history : Entries

-- the state, the records that are not kept yet, the ids that the last accepted line made for rows, the months whose cells are kept, from the first
-- number to before the second, and whether a want of memory has spoilt the device
pub record DeviceState : Type 0 where
  pub state : State
  pub batch : List Record
  pub made : List (List ℕ)
  pub covered : ℕ × ℕ
  pub spent : Bool

-- a state of which all is kept, and the cells of all months in which its rows stand
abbrev pub at_rest : State → DeviceState
at_rest s = record { state = s; batch = []; made = []; covered = covered_by (0, 0) s.messages; spent = false }

-- the cells of the month YYYYMM are kept
abbrev pub is_covered : DeviceState → ℕ → Bool
is_covered device month = is_between device.covered.0 device.covered.1 month

-- from a device to what a line makes of it, the steps are within the bound of the fields whose latest message changed
abbrev pub IsWithinBound : DeviceState → DeviceState → ℕ → ℕ → Type 0
IsWithinBound old new before after = IsWithin old.state.messages new.state.messages old.covered new.covered before after

-- a device that begins with a message set: its clock goes on after the last message, and nothing can be undone or redone
abbrev pub begun : List ℕ → List Message → State
begun node ms = record { messages = ms; clock = clock_after node (last_stamp ms); history = no_entries }

-- what messages write over: the fields that they write, as they are before
abbrev pub written_over : List Message → List Message → List Before
written_over ms ns = entry_over (value_in ms) (map (λ n. n.field) ns)

-- what an accepted line leaves: the state, the records that are not kept yet and the ids that it made for rows; and how many writes or new messages it was
pub record Accepted : Type 0 where
  pub state : State
  pub batch : List Record
  pub made : List (List ℕ)
  pub count : ℕ

-- the messages joined, with the clock where it now stands, what can then be undone and redone, the new ones pending, the ids that were made, and a count
abbrev pub with_messages : List Message → List Message → Stamp → Entries → List (List ℕ) → ℕ → Accepted
with_messages ms ns clock history made count = record
    { state = record { messages = join ms ns; clock = clock; history = history }; batch = map record_of (new_in ms ns); made = made; count = count }

-- the messages of writes joined, the first of which has this timestamp, with the clock where it now stands; what they wrote over can be undone or redone
abbrev pub with_writes : State → Turn → Stamp → List Write → Stamp → Accepted
with_writes s turn first ws clock =
    with_messages s.messages (stamped first ws) clock (after turn s.history (written_over s.messages (stamped first ws))) (made_ids first ws) (length ws)

-- a device after a line that was accepted with this count
abbrev pub accepted_as : DeviceState → ℕ → Accepted
accepted_as device count = record { state = device.state; batch = device.batch; made = device.made; count = count }

-- the first of n timestamps in a row, at the last of which the clock stands
abbrev pub first_in_row : Stamp → ℕ → Stamp
first_in_row clock n = record clock { counter = clock.counter - (n - 1) }

-- writes under the timestamps that the clock drew, at the last of which it stands, or its refusal
abbrev pub written : State → Turn → List Write → Result Stamp ClockFault → Result Accepted LineRefusal
written s turn ws (Err fault) = Err (OfClock fault)
written s turn ws (Ok clock) = Ok (with_writes s turn (first_in_row clock (length ws)) ws clock)

-- writes are made at a reading of the wall clock: none need no timestamp, and 65,536 are the most
abbrev pub writing : State → Turn → ℕ → Result (List Write) EditFault → Result Accepted LineRefusal
writing s turn reading (Err fault) = Err (OfEdit fault)
writing s turn reading (Ok []) = Ok (accepted_as (at_rest s) 0)
writing s turn reading (Ok (w ∷ ws)) =
    if nat_lt 65_536 (length (w ∷ ws)) then Err (OfEdit (TooManyWrites (length (w ∷ ws))))
    else written s turn (w ∷ ws) (draw s.clock reading (length (w ∷ ws)))

-- an edit is made in the book of the messages: first its own checks, then the number of its writes, then the clock
abbrev pub edited : State → Edit → ℕ → Result Accepted LineRefusal
edited s edit reading = writing s New reading (writes_of (rows_of s.messages) edit)

-- the writes that undo an entry, taken from the entry alone; where there is none, this fault
abbrev pub writes_back : EditFault → Option (List Before) → Result (List Write) EditFault
writes_back fault None = Err fault
writes_back fault (Some entry) = Ok (undo_writes entry)

-- the latest entry that can be undone is undone
abbrev pub undone : State → ℕ → Result Accepted LineRefusal
undone s reading = writing s Undo reading (writes_back NothingToUndo (latest_of s.history.undo))

-- the latest entry that can be redone is undone in its turn
abbrev pub redone : State → ℕ → Result Accepted LineRefusal
redone s reading = writing s Redo reading (writes_back NothingToRedo (latest_of s.history.redo))

-- the later of two timestamps
abbrev pub later_of : Stamp → Stamp → Stamp
later_of s t = if is_lt (stamp_cmp s t) then t else s

-- the greatest of a timestamp and those of messages
abbrev pub greatest : Stamp → List Message → Stamp
greatest s [] = s
greatest s (m ∷ ms) = greatest (later_of s m.stamp) ms

-- the greatest timestamp of messages; of no messages there is none
abbrev pub greatest_of : List Message → Option Stamp
greatest_of [] = None
greatest_of (m ∷ ms) = Some (greatest m.stamp ms)

-- messages joined where the clock took their greatest timestamp, or its refusal
abbrev pub taken_in : State → List Message → Result Stamp ClockFault → Result Accepted LineRefusal
taken_in s ns (Err fault) = Err (OfClock fault)
taken_in s ns (Ok clock) = Ok (with_messages s.messages ns clock s.history [] (length (new_in s.messages ns)))

-- messages with this greatest timestamp are received; where there are none, the clock stays as it is
abbrev pub receiving : State → List Message → ℕ → Option Stamp → Result Accepted LineRefusal
receiving s ns reading None = Ok (accepted_as (at_rest s) 0)
receiving s ns reading (Some stamp) = taken_in s ns (receive s.clock reading stamp)

-- messages are received at a reading of the wall clock, once for all of them, by their greatest timestamp
abbrev pub received : State → List Message → ℕ → Result Accepted LineRefusal
received s ns reading = receiving s ns reading (greatest_of ns)

-- the clock is not behind the timestamp: its time is later, or the same with at least its counter
abbrev pub IsUpTo : Stamp → Stamp → Type 0
IsUpTo clock s = (s.millis < clock.millis) ⊎ ((s.millis ≡ clock.millis) × (s.counter ≤ clock.counter))

-- the clock is not behind a message
abbrev pub IsAhead : Stamp → List Message → Type 0
IsAhead clock = AllByRecursion (λ m. IsUpTo clock m.stamp)

-- a line was accepted as it should be, with this count
abbrev pub IsAccepted : Result Accepted LineRefusal → DeviceState → ℕ → Type 0
IsAccepted meant device count = meant ≡ Ok (accepted_as device count)

-- a line was refused as it should be, and left all as it was; or memory ran out, and the device is spent
abbrev pub IsRefused : Result Accepted LineRefusal → DeviceState → DeviceState → LineRefusal → Type 0
IsRefused meant old new NoMemory = new.spent ≡ true
IsRefused meant old new refusal = (meant ≡ Err refusal) × (new ≡ old)

-- a line would be accepted, with this count
abbrev pub WouldBeAccepted : Result Accepted LineRefusal → ℕ → Type 0
WouldBeAccepted meant count = (accepted : Accepted) × ((meant ≡ Ok accepted) × (accepted.count ≡ count))

-- a line would be refused so; or memory ran out
abbrev pub WouldBeRefused : Result Accepted LineRefusal → LineRefusal → Type 0
WouldBeRefused meant NoMemory = Unit {0}
WouldBeRefused meant refusal = meant ≡ Err refusal

-- what holds of a device that is not spent
pub record Stands (known : Known) (grid : Grid) (clock : Stamp) (batch : List Record) : Type 0 where
  pub right : IsKnown known
  pub grid_live : grid.spent ≡ false
  pub cells : StandsFor grid (rows_of known.log.messages)
  pub ahead : IsAhead clock known.log.messages
  pub keys : HaveKeys batch
