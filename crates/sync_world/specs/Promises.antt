-- What a world keeps to, whatever happens in it.
use Rattle.std.specs.Prelude.{◌≡◌, ◌≢◌, ℕ, ◌+◌, ◌≤◌, List, ◌∷◌, ◌++◌, length, Some, Ok}
use Rattle.std.specs.List.{Contains}
use Rattle.field_merge.specs.declared.message.Message.{Message}
use Rattle.field_merge.specs.Log.{IsRising, join}
use Rattle.field_merge.specs.Joining.{HaveSame}
use Rattle.device_core.specs.Device.{State}
use Rattle.sync_world.specs.declared.event.Event.{Event}
use Rattle.sync_world.specs.declared.event.Outcome.{Outcome}
use Rattle.sync_world.specs.declared.making.Making.{Making}
use Rattle.sync_world.specs.World.{WorldState, start, device_of, messages_of, stepped, after}
use Rattle.sync_world.specs.Right.{AreDifferent, IsAtMaker, WereMade, IsRight}

-- what is true of a world
pub record KeepsPromises (w : WorldState) : Type 0 where
  -- no set has a message that was not made
  pub devices_made : (i : ℕ) (s : State) → device_of w.devices i ≡ Some s → WereMade w s.messages
  pub server_made : WereMade w w.server
  -- what a device acknowledged has its maker's node, and is in its maker's set
  pub acknowledged : (x : Making) → Contains w.acknowledged x → IsAtMaker w.devices x
  -- what the server acknowledged is in its set
  pub kept : (m : Message) → Contains w.kept m → Contains w.server m
  -- two messages that were made at different places of the list have different timestamps
  pub unique : (front between back : List Message) (m n : Message) → messages_of w.made ≡ front ++ m ∷ between ++ n ∷ back → n.stamp ≢ m.stamp
  -- so the order and the number in which messages join that were made do not matter, whatever set they join that rises by timestamp
  pub any_order : (ms ns ps : List Message) → IsRising ms → WereMade w ns → HaveSame ns ps → join ms ns ≡ join ms ps
  -- and two devices with the same messages have equal sets
  pub equal : (i j : ℕ) (s t : State) → device_of w.devices i ≡ Some s → device_of w.devices j ≡ Some t → HaveSame s.messages t.messages → s.messages ≡ t.messages

-- the list goes on
abbrev pub GoesOn : {A : Type 0} → List A → List A → Type 0
GoesOn {A} old new = (more : List A) × (new ≡ old ++ more)

-- a device has the node and all messages that it had
pub record KeepsAll (old new : State) : Type 0 where
  pub node : new.clock.node ≡ old.clock.node
  pub messages : (m : Message) → Contains old.messages m → Contains new.messages m

-- a world that came of another: nothing that was made, acknowledged or sent is taken back, and no set loses a message
pub record ComesOf (old new : WorldState) : Type 0 where
  pub made : GoesOn old.made new.made
  pub acknowledged : GoesOn old.acknowledged new.acknowledged
  pub kept : GoesOn old.kept new.kept
  pub requests : GoesOn old.requests new.requests
  pub replies : GoesOn old.replies new.replies
  pub server : (m : Message) → Contains old.server m → Contains new.server m
  pub devices : (i : ℕ) (s : State) → device_of old.devices i ≡ Some s → (t : State) × ((device_of new.devices i ≡ Some t) × KeepsAll s t)

pub record WorldsKeepPromises : Type 0 where
  -- after any events, in a world whose devices have different nodes
  pub promises : (nodes : List (List ℕ)) → AreDifferent nodes → (events : List Event) → KeepsPromises (after events (start nodes))
  -- and after more of them
  pub comes : (nodes : List (List ℕ)) → AreDifferent nodes → (events more : List Event) → ComesOf (after events (start nodes)) (after (events ++ more) (start nodes))

-- what is right of a world makes it keep to these
abbrev pub RightWorldsKeep : Type 0
RightWorldsKeep = (nodes : List (List ℕ)) (w : WorldState) → IsRight nodes w → KeepsPromises w

-- an event sends one request or one reply at most
abbrev pub StepsSendFew : Type 0
StepsSendFew = (w v : WorldState) (e : Event) (outcome : Outcome) → stepped w e ≡ Ok (v, outcome) → (length v.requests ≤ length w.requests + 1) × (length v.replies ≤ length w.replies + 1)
