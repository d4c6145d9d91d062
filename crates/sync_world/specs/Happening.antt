-- What each event does in a world, in words: what it leaves, and what it comes to; and what prevents it.
use Rattle.std.specs.Prelude.{◌≡◌, ◌↔◌, ◌⊎◌, ℕ, ◌+◌, ◌<◌, ◌≤◌, List, [], ◌∷◌, ◌++◌, length, Bool, true, false, Some, Ok, Err}
use Rattle.std.specs.List.{Contains, AllByRecursion, slice_get}
use Rattle.std.specs.Ordering.{is_gt, nat_cmp}
use Rattle.std.specs.Cmp.Lexicographic.{slice_cmp}
use Rattle.hybrid_clock.specs.Clock.{IsLater}
use Rattle.hybrid_clock.specs.Stamp.{stamp_text}
use Rattle.field_merge.specs.declared.message.Message.{Message}
use Rattle.field_merge.specs.Log.{IsRising}
use Rattle.minute_trie.specs.Json.{trie_text}
use Rattle.minute_trie.specs.Trie.{trie_of}
use Rattle.kept_messages.specs.Pairs.{pairs_of}
use Rattle.device_core.specs.declared.edit.LineRefusal.{LineRefusal}
use Rattle.device_core.specs.Beginning.{IsBegun}
use Rattle.device_core.specs.Device.{State, Accepted, received}
use Rattle.sync_wire.specs.declared.request.SyncRequest.{SyncRequest}
use Rattle.sync_wire.specs.declared.response.SyncResponse.{SyncResponse}
use Rattle.sync_world.specs.declared.event.Event.{Event}
use Rattle.sync_world.specs.declared.event.Event.TheVariants as events
use Rattle.sync_world.specs.declared.event.Outcome.{Outcome}
use Rattle.sync_world.specs.declared.event.Outcome.TheVariants.{Wrote, Asked, Served, Took, Stopped, Halted}
use Rattle.sync_world.specs.declared.event.WorldEdit.{WorldEdit}
use Rattle.sync_world.specs.declared.event.WorldFault.{WorldFault}
use Rattle.sync_world.specs.declared.event.WorldFault.TheVariants.{NoSuchDevice, NoSuchRequest, NoSuchReply, Line}
use Rattle.sync_world.specs.declared.making.Making.{Making}
use Rattle.sync_world.specs.World.{WorldState, device_of, messages_of, changed, stepped}
use Rattle.sync_world.specs.Right.{AreDifferent, IsRight}

-- all these messages and all those, and no other
abbrev pub HasBoth : List Message → List Message → List Message → Type 0
HasBoth ms ns all = (m : Message) → Contains all m ↔ (Contains ms m ⊎ Contains ns m)

-- the messages whose timestamp's text is greater than this text, from the oldest on
pub record AreLater (since : List ℕ) (ms later : List Message) : Type 0 where
  pub in_order : IsRising later
  pub exactly : (m : Message) → Contains later m ↔ (Contains ms m × (is_gt (slice_cmp nat_cmp (stamp_text m.stamp) since) ≡ true))

-- a list of what was made goes on with these messages, which this device made
pub record GrowsBy (i : ℕ) (ms : List Message) (old new : List Making) : Type 0 where
  pub more : List Making
  pub grown : new ≡ old ++ more
  pub messages : messages_of more ≡ ms
  pub maker : AllByRecursion (λ x. x.device ≡ i) more

-- the device with this number goes from one state to another, and each other device stays as it is
pub record GoesTo (i : ℕ) (old new : WorldState) (s t : State) : Type 0 where
  pub there : device_of old.devices i ≡ Some s
  pub now : device_of new.devices i ≡ Some t
  pub others : (j : ℕ) → (j ≡ i → ⊥) → device_of new.devices j ≡ device_of old.devices j

-- a device accepts an edit, an undo or a redo, and makes these messages
pub record Accepts (s : State) (edit : WorldEdit) (reading : ℕ) (a : Accepted) (ms : List Message) : Type 0 where
  pub answer : changed s edit reading ≡ Ok a
  -- they stand behind those that it had, which all stay
  pub behind : a.state.messages ≡ s.messages ++ ms
  -- each has the device's node, and is later than where its clock stood
  pub own : (m : Message) → Contains ms m → (m.stamp.node ≡ s.clock.node) × IsLater s.clock m.stamp
  -- as many as they are were counted
  pub counted : a.count ≡ length ms

-- a device that begins: it has these messages and no others, its clock goes on after the last of them, and nothing can be undone or redone
pub record BeginsWith (node : List ℕ) (ms : List Message) (s : State) : Type 0 where
  pub begun : IsBegun node ms s
  pub no_undo : s.history.undo ≡ []
  pub no_redo : s.history.redo ≡ []

-- a device takes in messages
pub record TakesIn (s : State) (ms : List Message) (reading : ℕ) (a : Accepted) : Type 0 where
  pub answer : received s ms reading ≡ Ok a
  -- it then has all that it had and all that came
  pub in_order : IsRising a.state.messages
  pub joined : HasBoth s.messages ms a.state.messages
  -- those that are new were counted
  pub counted : length a.state.messages ≡ length s.messages + a.count
  -- what can be undone and redone stays
  pub history : a.state.history ≡ s.history

-- ---- what happens

-- the device makes messages, which are then noted as made and as acknowledged; nothing else changes
pub record EditHappens (i : ℕ) (edit : WorldEdit) (reading : ℕ) (old new : WorldState) (outcome : Outcome) : Type 0 where
  pub device : State
  pub accepted : Accepted
  pub messages : List Message
  pub accepts : Accepts device edit reading accepted messages
  pub goes : GoesTo i old new device accepted.state
  pub made : GrowsBy i messages old.made new.made
  pub acknowledged : GrowsBy i messages old.acknowledged new.acknowledged
  pub rest : new ≡ record old { devices = new.devices; made = new.made; acknowledged = new.acknowledged }
  pub told : outcome ≡ Wrote (length messages) accepted.made

-- the device sends all its messages later than a text, and no others; nothing else changes
pub record AskHappens (i : ℕ) (since : List ℕ) (old new : WorldState) (outcome : Outcome) : Type 0 where
  pub device : State
  pub there : device_of old.devices i ≡ Some device
  pub request : SyncRequest
  pub messages : AreLater since device.messages request.messages
  pub plain : request.encrypted ≡ false
  -- it names no file and no group: a world has one
  pub file : request.file ≡ []
  pub group : request.group ≡ []
  pub asked_from : request.since ≡ since
  pub sent : new.requests ≡ old.requests ++ request ∷ []
  pub rest : new ≡ record old { requests = new.requests }
  pub told : outcome ≡ Asked (length old.requests)

-- the server takes the messages of a request in and acknowledges them all. It sends those that it had before and that are later than the request
-- asks for, and the trie of all that it has then; nothing else changes
pub record ServeHappens (k : ℕ) (old new : WorldState) (outcome : Outcome) : Type 0 where
  pub request : SyncRequest
  pub there : slice_get old.requests k ≡ Some request
  pub in_order : IsRising new.server
  pub joined : HasBoth old.server request.messages new.server
  pub acknowledged : new.kept ≡ old.kept ++ request.messages
  pub reply : SyncResponse
  pub messages : AreLater request.since old.server reply.messages
  pub plain : reply.encrypted ≡ false
  pub trie : reply.merkle ≡ trie_text (trie_of (pairs_of new.server))
  pub sent : new.replies ≡ old.replies ++ reply ∷ []
  pub rest : new ≡ record old { server = new.server; kept = new.kept; replies = new.replies }
  pub told : outcome ≡ Served (length old.replies) (length reply.messages)

-- the device takes the messages of a reply in, and those that were new to it are counted; nothing else changes
pub record TakeHappens (i k reading : ℕ) (old new : WorldState) (outcome : Outcome) : Type 0 where
  pub device : State
  pub reply : SyncResponse
  pub there : slice_get old.replies k ≡ Some reply
  pub accepted : Accepted
  pub takes : TakesIn device reply.messages reading accepted
  pub goes : GoesTo i old new device accepted.state
  pub rest : new ≡ record old { devices = new.devices }
  pub told : outcome ≡ Took accepted.count

-- the device accepts an edit and stops during it: it begins anew, with the edit's messages, which are then noted as made, or without them; none is
-- acknowledged, and nothing else changes
pub record StopHappens (i : ℕ) (edit : WorldEdit) (reading : ℕ) (whole : Bool) (old new : WorldState) (outcome : Outcome) : Type 0 where
  pub device : State
  pub accepted : Accepted
  pub messages : List Message
  pub accepts : Accepts device edit reading accepted messages
  pub begun : State
  pub goes : GoesTo i old new device begun
  pub kept : whole ≡ true → BeginsWith device.clock.node (device.messages ++ messages) begun × GrowsBy i messages old.made new.made
  pub lost : whole ≡ false → BeginsWith device.clock.node device.messages begun × (new.made ≡ old.made)
  pub rest : new ≡ record old { devices = new.devices; made = new.made }
  pub told : outcome ≡ Stopped

-- the server stops during a request, all of whose messages it has then, or none but those that it had; nothing is sent or acknowledged, and nothing else
-- changes
pub record HaltHappens (k : ℕ) (whole : Bool) (old new : WorldState) (outcome : Outcome) : Type 0 where
  pub request : SyncRequest
  pub there : slice_get old.requests k ≡ Some request
  pub in_order : IsRising new.server
  pub kept : whole ≡ true → HasBoth old.server request.messages new.server
  pub lost : whole ≡ false → new.server ≡ old.server
  pub rest : new ≡ record old { server = new.server }
  pub told : outcome ≡ Halted

abbrev pub Happens : WorldState → Event → WorldState → Outcome → Type 0
Happens old (events.Edit i edit reading) new outcome = EditHappens i edit reading old new outcome
Happens old (events.Ask i since) new outcome = AskHappens i since old new outcome
Happens old (events.Serve k) new outcome = ServeHappens k old new outcome
Happens old (events.Take i k reading) new outcome = TakeHappens i k reading old new outcome
Happens old (events.Stop i edit reading whole) new outcome = StopHappens i edit reading whole old new outcome
Happens old (events.Halt k whole) new outcome = HaltHappens k whole old new outcome

-- ---- what prevents it

-- no device has this number: they are counted from 1
pub record LacksDevice (w : WorldState) (i : ℕ) (fault : WorldFault) : Type 0 where
  pub none : (i ≡ 0) ⊎ (length w.devices < i)
  pub told : fault ≡ NoSuchDevice i

-- so many requests were not sent: they are counted from 0
pub record LacksRequest (w : WorldState) (k : ℕ) (fault : WorldFault) : Type 0 where
  pub none : length w.requests ≤ k
  pub told : fault ≡ NoSuchRequest k

-- there is such a device, and so many replies were not sent: they are counted from 0
pub record LacksReply (w : WorldState) (i k : ℕ) (fault : WorldFault) : Type 0 where
  pub device : State
  pub there : device_of w.devices i ≡ Some device
  pub none : length w.replies ≤ k
  pub told : fault ≡ NoSuchReply k

-- the device refuses the edit, the undo or the redo
pub record RefusesEdit (w : WorldState) (i : ℕ) (edit : WorldEdit) (reading : ℕ) (fault : WorldFault) : Type 0 where
  pub device : State
  pub there : device_of w.devices i ≡ Some device
  pub refusal : LineRefusal
  pub answer : changed device edit reading ≡ Err refusal
  pub told : fault ≡ Line refusal

-- the device's clock refuses the messages of the reply
pub record RefusesReply (w : WorldState) (i k reading : ℕ) (fault : WorldFault) : Type 0 where
  pub device : State
  pub there : device_of w.devices i ≡ Some device
  pub reply : SyncResponse
  pub sent : slice_get w.replies k ≡ Some reply
  pub refusal : LineRefusal
  pub answer : received device reply.messages reading ≡ Err refusal
  pub told : fault ≡ Line refusal

abbrev pub IsPrevented : WorldState → Event → WorldFault → Type 0
IsPrevented w (events.Edit i edit reading) fault = LacksDevice w i fault ⊎ RefusesEdit w i edit reading fault
IsPrevented w (events.Ask i since) fault = LacksDevice w i fault
IsPrevented w (events.Serve k) fault = LacksRequest w k fault
IsPrevented w (events.Take i k reading) fault = LacksDevice w i fault ⊎ (LacksReply w i k fault ⊎ RefusesReply w i k reading fault)
IsPrevented w (events.Stop i edit reading whole) fault = LacksDevice w i fault ⊎ RefusesEdit w i edit reading fault
IsPrevented w (events.Halt k whole) fault = LacksRequest w k fault

-- ---- the law

pub record EventsHappen : Type 0 where
  -- in a world of which all is right, an event leaves a world and comes to an outcome where that is what is said of it, and only there
  pub happens : (nodes : List (List ℕ)) (old new : WorldState) (e : Event) (outcome : Outcome) → AreDifferent nodes → IsRight nodes old → (stepped old e ≡ Ok (new, outcome)) ↔ Happens old e new outcome
  -- in any world, an event is refused for a fault where that prevents it, and only there
  pub prevented : (w : WorldState) (e : Event) (fault : WorldFault) → (stepped w e ≡ Err fault) ↔ IsPrevented w e fault
