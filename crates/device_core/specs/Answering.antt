-- Which writes and which messages are accepted, and why the others are refused.
use Rattle.std.specs.Prelude.{◌≡◌, ◌⊎◌, ℕ, List, [], Some, Result, Ok, Err}
use Rattle.field_values.specs.declared.value.Value.{Value}
use Rattle.field_values.specs.Names.{field_of, IsName, AreNames}
use Rattle.hybrid_clock.specs.declared.stamp.Stamp.{Stamp}
use Rattle.hybrid_clock.specs.declared.clock.ClockFault.{ClockFault}
use Rattle.hybrid_clock.specs.Clock.{draw, receive}
use Rattle.field_merge.specs.declared.message.Message.{Message}
use Rattle.device_core.specs.declared.edit.Edit.TheVariants.{Book}
use Rattle.book_edits.specs.declared.edit.BookEdit.TheVariants.{Set}
use Rattle.book_rows.specs.declared.fault.EditFault.TheVariants.{BadId}
use Rattle.device_core.specs.declared.edit.LineRefusal.{LineRefusal}
use Rattle.device_core.specs.declared.edit.LineRefusal.TheVariants.{Edit as OfEdit, Clock as OfClock}
use Rattle.device_core.specs.Device.{State, Accepted, edited, greatest_of, received}

-- it was accepted, and the clock then stands at this timestamp
abbrev pub IsAcceptedAt : Result Accepted LineRefusal → Stamp → Type 0
IsAcceptedAt answer clock = (accepted : Accepted) × ((answer ≡ Ok accepted) × (accepted.state.clock ≡ clock))

-- the id is the first of dataset, row and column that is no name
abbrev pub IsFirstBadName : List ℕ → List ℕ → List ℕ → List ℕ → Type 0
IsFirstBadName dataset row column id =
    ((id ≡ dataset) × (IsName dataset → ⊥))
    ⊎ ((IsName dataset × ((id ≡ row) × (IsName row → ⊥)))
    ⊎ (IsName dataset × (IsName row × ((id ≡ column) × (IsName column → ⊥)))))

-- what a write of a value at a reading of the wall clock is answered
pub record IsAnsweredWrite (s : State) (dataset row column : List ℕ) (value : Value) (reading : ℕ) : Type 0 where
  -- it is accepted where the three are names and the clock draws a timestamp, at which it then stands
  pub accepted : (clock : Stamp) → AreNames (field_of dataset row column) → draw s.clock reading 1 ≡ Ok clock → IsAcceptedAt (edited s (Book (Set dataset row column value)) reading) clock
  -- where they are names and the clock draws none, it is refused for the fault of the clock
  pub no_stamp : (fault : ClockFault) → AreNames (field_of dataset row column) → draw s.clock reading 1 ≡ Err fault → edited s (Book (Set dataset row column value)) reading ≡ Err (OfClock fault)
  -- where they are not all names, it is refused for one of them
  pub bad_name : (AreNames (field_of dataset row column) → ⊥) → (id : List ℕ) × (edited s (Book (Set dataset row column value)) reading ≡ Err (OfEdit (BadId id)))
  -- which is the first that is no name
  pub first_bad : (id : List ℕ) → edited s (Book (Set dataset row column value)) reading ≡ Err (OfEdit (BadId id)) → IsFirstBadName dataset row column id

-- a write is accepted or refused for the first bad name, else for the clock
abbrev pub WritesAreAnswered : Type 0
WritesAreAnswered = (s : State) (dataset row column : List ℕ) (value : Value) (reading : ℕ) → IsAnsweredWrite s dataset row column value reading

-- what messages that come at a reading of the wall clock are answered
pub record AreAnswered (s : State) (ns : List Message) (reading : ℕ) : Type 0 where
  -- they are accepted where the clock receives their greatest timestamp, and it then stands where that leaves it
  pub accepted : (greatest clock : Stamp) → greatest_of ns ≡ Some greatest → receive s.clock reading greatest ≡ Ok clock → IsAcceptedAt (received s ns reading) clock
  -- where it does not, they are refused for its fault
  pub no_stamp : (greatest : Stamp) (fault : ClockFault) → greatest_of ns ≡ Some greatest → receive s.clock reading greatest ≡ Err fault → received s ns reading ≡ Err (OfClock fault)
  -- where there are no messages, that is always accepted, and the clock stays
  pub none : ns ≡ [] → IsAcceptedAt (received s ns reading) s.clock

-- messages are accepted or refused for the clock alone
abbrev pub MessagesAreAnswered : Type 0
MessagesAreAnswered = (s : State) (ns : List Message) (reading : ℕ) → AreAnswered s ns reading
