-- A world: devices, a server, and what was made, acknowledged and sent; and what an event makes of it.
use Rattle.std.specs.Prelude.{ℕ, zero, suc, List, [], ◌∷◌, ◌++◌, length, map, drop, Bool, true, false, Option, None, Some, Result, Ok, Err, slice_set}
use Rattle.std.specs.List.{slice_get}
use Rattle.field_merge.specs.declared.message.Message.{Message}
use Rattle.field_merge.specs.Log.{join, messages_after}
use Rattle.device_core.specs.declared.edit.LineRefusal.{LineRefusal}
use Rattle.device_core.specs.Device.{State, Accepted, begun, edited, undone, redone, received}
use Rattle.sync_wire.specs.declared.request.SyncRequest.{SyncRequest}
use Rattle.sync_wire.specs.declared.response.SyncResponse.{SyncResponse}
use Rattle.sync_server.specs.Answer.{answer_of}
use Rattle.sync_world.specs.declared.making.Making.{Making}
use Rattle.sync_world.specs.declared.event.WorldEdit.{WorldEdit}
use Rattle.sync_world.specs.declared.event.WorldEdit.TheVariants as edits
use Rattle.sync_world.specs.declared.event.Event.{Event}
use Rattle.sync_world.specs.declared.event.Event.TheVariants as events
use Rattle.sync_world.specs.declared.event.Outcome.{Outcome}
use Rattle.sync_world.specs.declared.event.Outcome.TheVariants.{Wrote, Asked, Served, Took, Stopped, Halted}
use Rattle.sync_world.specs.declared.event.WorldFault.{WorldFault}
use Rattle.sync_world.specs.declared.event.WorldFault.TheVariants.{NoSuchDevice, NoSuchRequest, NoSuchReply, Line}

-- the devices, counted from 1; the messages that the server has; the messages that were made, that devices acknowledged and that the server acknowledged;
-- the requests and the replies that were sent, counted from 0
pub record WorldState : Type 0 where
  pub devices : List State
  pub server : List Message
  pub made : List Making
  pub acknowledged : List Making
  pub kept : List Message
  pub requests : List SyncRequest
  pub replies : List SyncResponse

-- a world of devices with these nodes, in which nothing has happened
abbrev pub start : List (List ℕ) → WorldState
start nodes = record { devices = map (λ node. begun node []) nodes; server = []; made = []; acknowledged = []; kept = []; requests = []; replies = [] }

-- the device with this number: they are counted from 1
abbrev pub device_of : {A : Type 0} → List A → ℕ → Option A
device_of devices zero = None
device_of devices (suc i) = slice_get devices i

-- the devices with the one of this number in a new state
abbrev pub with_device : {A : Type 0} → List A → ℕ → A → List A
with_device devices zero s = devices
with_device devices (suc i) s = slice_set devices i s

-- the messages of makings
abbrev pub messages_of : List Making → List Message
messages_of xs = map (λ x. x.message) xs

-- messages that this device made
abbrev pub made_by : ℕ → List Message → List Making
made_by i ms = map (λ m. record { device = i; message = m }) ms

-- what a device makes of an edit, an undo or a redo
abbrev pub changed : State → WorldEdit → ℕ → Result Accepted LineRefusal
changed s (edits.Line edit) reading = edited s edit reading
changed s edits.Undo reading = undone s reading
changed s edits.Redo reading = redone s reading

-- the messages that it made: those that stand behind the ones of before
abbrev pub news : State → Accepted → List Message
news s a = drop (length s.messages) a.state.messages

-- a world and what an event came to, or why it does not happen
abbrev pub Answer : Type 0
Answer = Result (WorldState × Outcome) WorldFault

-- ---- an edit

abbrev pub wrote : WorldState → ℕ → State → Result Accepted LineRefusal → Answer
wrote w i s (Err refusal) = Err (Line refusal)
wrote w i s (Ok a) = Ok (
  record w {
    devices = with_device w.devices i a.state;
    made = w.made ++ made_by i (news s a);
    acknowledged = w.acknowledged ++ made_by i (news s a);
  },
  Wrote a.count a.made,
)

abbrev pub edits_at : WorldState → ℕ → WorldEdit → ℕ → Option State → Answer
edits_at w i edit reading None = Err (NoSuchDevice i)
edits_at w i edit reading (Some s) = wrote w i s (changed s edit reading)

-- ---- a request, which speaks of no file: a world has one group

abbrev pub request_of : List Message → List ℕ → SyncRequest
request_of ms since = record { messages = messages_after since ms; encrypted = false; file = []; group = []; since = since }

abbrev pub asks_at : WorldState → ℕ → List ℕ → Option State → Answer
asks_at w i since None = Err (NoSuchDevice i)
asks_at w i since (Some s) = Ok (record w { requests = w.requests ++ request_of s.messages since ∷ [] }, Asked (length w.requests))

-- ---- the server answers

abbrev pub serves : WorldState → ℕ → Option SyncRequest → Answer
serves w k None = Err (NoSuchRequest k)
serves w k (Some q) = Ok (
  record w {
    server = join w.server q.messages;
    kept = w.kept ++ q.messages;
    replies = w.replies ++ answer_of w.server q ∷ [];
  },
  Served (length w.replies) (length (answer_of w.server q).messages),
)

-- ---- a reply comes

abbrev pub took : WorldState → ℕ → Result Accepted LineRefusal → Answer
took w i (Err refusal) = Err (Line refusal)
took w i (Ok a) = Ok (record w { devices = with_device w.devices i a.state }, Took a.count)

abbrev pub takes_at : WorldState → ℕ → ℕ → ℕ → Option State → Option SyncResponse → Answer
takes_at w i k reading None reply = Err (NoSuchDevice i)
takes_at w i k reading (Some s) None = Err (NoSuchReply k)
takes_at w i k reading (Some s) (Some reply) = took w i (received s reply.messages reading)

-- ---- a device stops during an edit that it accepts: the session is lost, and the clock goes on after the messages

abbrev pub stopped : WorldState → ℕ → State → Bool → Result Accepted LineRefusal → Answer
stopped w i s whole (Err refusal) = Err (Line refusal)
stopped w i s true (Ok a) = Ok (
  record w {
    devices = with_device w.devices i (begun s.clock.node a.state.messages);
    made = w.made ++ made_by i (news s a);
  },
  Stopped,
)
stopped w i s false (Ok a) = Ok (record w { devices = with_device w.devices i (begun s.clock.node s.messages) }, Stopped)

abbrev pub stops_at : WorldState → ℕ → WorldEdit → ℕ → Bool → Option State → Answer
stops_at w i edit reading whole None = Err (NoSuchDevice i)
stops_at w i edit reading whole (Some s) = stopped w i s whole (changed s edit reading)

-- ---- the server stops during a request

abbrev pub halts : WorldState → ℕ → Bool → Option SyncRequest → Answer
halts w k whole None = Err (NoSuchRequest k)
halts w k true (Some q) = Ok (record w { server = join w.server q.messages }, Halted)
halts w k false (Some q) = Ok (w, Halted)

-- ---- an event

abbrev pub stepped : WorldState → Event → Answer
stepped w (events.Edit i edit reading) = edits_at w i edit reading (device_of w.devices i)
stepped w (events.Ask i since) = asks_at w i since (device_of w.devices i)
stepped w (events.Serve k) = serves w k (slice_get w.requests k)
stepped w (events.Take i k reading) = takes_at w i k reading (device_of w.devices i) (slice_get w.replies k)
stepped w (events.Stop i edit reading whole) = stops_at w i edit reading whole (device_of w.devices i)
stepped w (events.Halt k whole) = halts w k whole (slice_get w.requests k)

-- what is refused leaves the world as it was
abbrev pub left_by : WorldState → Answer → WorldState
left_by w (Ok p) = p.0
left_by w (Err fault) = w

-- the world after events, one after the other
abbrev pub after : List Event → WorldState → WorldState
after [] w = w
after (e ∷ es) w = after es (left_by w (stepped w e))
