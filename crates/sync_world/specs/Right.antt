-- What stays right of a world.
use Rattle.std.specs.Prelude.{◌≡◌, ◌≢◌, ℕ, List, [], ◌∷◌, map, Some}
use Rattle.std.specs.List.{Contains, AllByRecursion, slice_get}
use Rattle.field_merge.specs.declared.message.Message.{Message}
use Rattle.field_merge.specs.Log.{IsRising}
use Rattle.device_core.specs.Device.{State, IsAhead}
use Rattle.sync_wire.specs.declared.request.SyncRequest.{SyncRequest}
use Rattle.sync_wire.specs.declared.response.SyncResponse.{SyncResponse}
use Rattle.sync_world.specs.declared.event.Event.{Event}
use Rattle.sync_world.specs.declared.making.Making.{Making}
use Rattle.sync_world.specs.World.{WorldState, start, device_of, messages_of, stepped, left_by, after}

-- each stands at one place alone
abbrev pub AreDifferent : List (List ℕ) → Type 0
AreDifferent nodes = (i j : ℕ) (node : List ℕ) → slice_get nodes i ≡ Some node → slice_get nodes j ≡ Some node → i ≡ j

-- no two of the messages have one timestamp
abbrev pub AreApart : List Message → Type 0
AreApart [] = Unit {0}
AreApart (m ∷ ms) = AllByRecursion (λ n. n.stamp ≢ m.stamp) ms × AreApart ms

-- the message has its maker's node, and is in its maker's set
pub record IsAtMaker (devices : List State) (x : Making) : Type 0 where
  pub maker : State
  pub there : device_of devices x.device ≡ Some maker
  pub node : x.message.stamp.node ≡ maker.clock.node
  pub held : Contains maker.messages x.message

-- all of the messages were made
abbrev pub WereMade : WorldState → List Message → Type 0
WereMade w ms = (m : Message) → Contains ms m → Contains (messages_of w.made) m

-- what is right of a world of devices with these nodes
pub record IsRight (nodes : List (List ℕ)) (w : WorldState) : Type 0 where
  -- each device's clock has the device's node
  pub own : map (λ s. s.clock.node) w.devices ≡ nodes
  -- the messages of each device rise by timestamp, and its clock is behind none of them; those of the server rise too
  pub rising : (i : ℕ) (s : State) → device_of w.devices i ≡ Some s → IsRising s.messages
  pub ahead : (i : ℕ) (s : State) → device_of w.devices i ≡ Some s → IsAhead s.clock s.messages
  pub server_rising : IsRising w.server
  -- each message that was made has its maker's node, and is in its maker's set
  pub made : (x : Making) → Contains w.made x → IsAtMaker w.devices x
  -- sets, requests and replies have messages that were made, and no others
  pub sets : (i : ℕ) (s : State) → device_of w.devices i ≡ Some s → WereMade w s.messages
  pub server : WereMade w w.server
  pub requests : (q : SyncRequest) → Contains w.requests q → WereMade w q.messages
  pub replies : (r : SyncResponse) → Contains w.replies r → WereMade w r.messages
  -- the server's set has what the server acknowledged
  pub kept : (m : Message) → Contains w.kept m → Contains w.server m
  -- what a device acknowledged was made
  pub acknowledged : (x : Making) → Contains w.acknowledged x → Contains w.made x
  -- no two messages that were made have one timestamp
  pub apart : AreApart (messages_of w.made)

abbrev pub WorldsStayRight : Type 0
WorldsStayRight = (nodes : List (List ℕ)) → AreDifferent nodes → (events : List Event) → IsRight nodes (after events (start nodes))

abbrev pub StepsStayRight : Type 0
StepsStayRight = (nodes : List (List ℕ)) (w : WorldState) (e : Event) → AreDifferent nodes → IsRight nodes w → IsRight nodes (left_by w (stepped w e))
