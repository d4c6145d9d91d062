-- A door in memory.
use Rattle.std.specs.Prelude.{◌≡◌, ℕ, ◌+◌, ◌-◌, ◌==◌, List, [], ◌∷◌, ◌++◌, length, map, take, drop, min, max, replicate, slice_index, Option, None, Some, nat_le, ◌&&◌, Bool, true, false}
use Rattle.std.specs.List.{slice_get}
use Rattle.budget_ports.specs.Faults.{risen}
use Rattle.budget_ports.specs.Calls.{CallState, no_calls, answered, failed}

-- what was written to a connection, and how many bytes find room in all
pub record RoomState : Type 0 where
  pub taken : List ℕ
  pub size : ℕ

-- a connection that waits: what comes by it, and how many bytes find room that will be written to it
pub record Visitor : Type 0 where
  pub came : List ℕ
  pub size : ℕ

-- the connections that wait; what is left of the one that was let in last; what was written to those that were given and
-- let in; how many were let in past the last that was given; whether one is open; the sizes of the pieces in which bytes come,
-- how many reads of the one that was let in last did not fail, and the calls
pub record DoorState : Type 0 where
  pub waiting : List Visitor
  pub left : List ℕ
  pub rooms : List RoomState
  pub past : ℕ
  pub is_open : Bool
  pub pieces : List ℕ
  pub reads : ℕ
  pub calls : CallState

-- a connection by which these bytes come, with room for so many
abbrev pub visitor : ℕ → List ℕ → Visitor
visitor room bytes = record { came = bytes; size = room }

-- before the first call: these connections wait, each with room for this many bytes
abbrev pub shut_door : List (List ℕ) → List ℕ → ℕ → List ℕ → DoorState
shut_door connections pieces room listed = record {
  waiting = map (visitor room) connections;
  left = [];
  rooms = [];
  past = 0;
  is_open = false;
  pieces = pieces;
  reads = 0;
  calls = no_calls listed;
}

-- the bytes of those that wait
abbrev pub to_come : DoorState → List (List ℕ)
to_come door = map (λ (visitor : Visitor). visitor.came) door.waiting

-- what was written to each that was let in: to those past the last that was given nothing was
abbrev pub outs : DoorState → List (List ℕ)
outs door = map (λ (room : RoomState). room.taken) door.rooms ++ replicate door.past []

-- the most bytes that a read gives, where so many reads of the connection came before it: what the buffer has room for, and with pieces no more
-- than its own, where the last one stands for all later ones. A piece has at least one byte
abbrev pub piece : List ℕ → ℕ → ℕ → ℕ
piece [] reads room = room
piece (first ∷ more) reads room = min room (max (slice_index (first ∷ more) (min reads (length more))) 1)

-- whether bytes find room behind what was written to the last one
abbrev pub has_space : List RoomState → List ℕ → Bool
has_space rooms bytes = by (slice_get rooms (length rooms - 1))
  where
    by : Option RoomState → Bool
    by None = false
    by (Some room) = nat_le (length bytes) (room.size - length room.taken)

-- whether bytes can be written: a connection that was given is open, and they find room
abbrev pub can_write : DoorState → List ℕ → Bool
can_write door bytes = door.is_open && (door.past == 0) && has_space door.rooms bytes

-- a door after it has let the next connection in: a given one gets its room, and past the last one there are no bytes
abbrev pub opened : DoorState → DoorState
opened door = by door.waiting
  where
    by : List Visitor → DoorState
    by [] = record door { left = []; past = door.past + 1; is_open = true; reads = 0; calls = answered door.calls }
    by (visitor ∷ later) = record door {
      waiting = later;
      left = visitor.came;
      rooms = door.rooms ++ record { taken = []; size = visitor.size } ∷ [];
      is_open = true;
      reads = 0;
      calls = answered door.calls;
    }

-- a read gave n bytes, as many as are left and the piece allows: it moved them from the front of what is left to the front of the buffer
pub record GivesPiece (old new : DoorState) (buffer filled : List ℕ) (n : ℕ) : Type 0 where
  pub most : n ≡ min (piece old.pieces old.reads (length buffer)) (length old.left)
  pub bytes : filled ≡ take n old.left ++ drop n buffer
  pub door : new ≡ record old { left = drop n old.left; reads = risen old.reads; calls = answered old.calls }

-- bytes were put behind what was written to the last one
pub record PutsLast (old new : List RoomState) (bytes : List ℕ) : Type 0 where
  pub earlier : List RoomState
  pub last : RoomState
  pub before : old ≡ earlier ++ last ∷ []
  pub after : new ≡ earlier ++ record last { taken = last.taken ++ bytes } ∷ []

-- bytes were put behind what was written to the last one, and nothing else has changed but the count
pub record WritesAll (old new : DoorState) (bytes : List ℕ) : Type 0 where
  pub rooms : PutsLast old.rooms new.rooms bytes
  pub door : new ≡ record old { rooms = new.rooms; calls = answered old.calls }

-- a door after a call that failed: nothing has changed but the counts
abbrev pub failed_door : DoorState → DoorState
failed_door old = record old { calls = failed old.calls }

-- a door after its connection was ended
abbrev pub closed_door : DoorState → DoorState
closed_door old = record old { is_open = false; calls = answered old.calls }

-- a door after the end of its connection failed: none is open all the same
abbrev pub unclosed_door : DoorState → DoorState
unclosed_door old = record old { is_open = false; calls = failed old.calls }
