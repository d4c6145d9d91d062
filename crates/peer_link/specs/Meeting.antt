-- What two devices have that synced with one server.
use Rattle.std.specs.Prelude.{◌≡◌, ℕ, ◌-◌, List, [], ◌++◌, length, map, slice_index, Option, Some}
use Rattle.budget_ports.specs.Exchanges.{Exchange}
use Rattle.hybrid_clock.specs.declared.stamp.Stamp.{Stamp}
use Rattle.field_merge.specs.declared.message.Message.{Message}
use Rattle.field_merge.specs.Log.{at_stamp, join}
use Rattle.minute_trie.specs.Trie.{trie_of}
use Rattle.kept_messages.specs.Pairs.{pairs_of}
use Rattle.device_sync.specs.Laws.{Converges, HaveOneEach, HaveSameStamps}
use Rattle.device_core.specs.Device.{State}
use Rattle.device_sync.specs.declared.fault.Synced.{Synced}
use Rattle.device_sync.specs.declared.target.Target.{Target}
use Rattle.device_sync.specs.Requests.{first_since}
use Rattle.device_sync.specs.Talk.{agreed, Turn, exchange_of, Talk, most_requests}
use Rattle.peer_link.specs.declared.meeting.Met.{Met}
use Rattle.peer_link.specs.Peer.{PeerState}
use Rattle.peer_link.specs.Place.{token, file, group}

-- a device that had the messages m, and has n now, has agreed with the server behind a link
pub record AgreesWith (m : List Message) (old new : PeerState) (n : List Message) : Type 0 where
  pub had : List Message
  pub had_it : old.messages ≡ Some had
  pub has : List Message
  pub has_it : new.messages ≡ Some has
  pub added : List Exchange
  pub are_added : new.exchanges ≡ old.exchanges ++ added
  pub converges : Converges m had added n has agreed

-- what was there is there still, as it was
abbrev pub Grows : List Message → List Message → Type 0
Grows ms ns = (s : Stamp) (m : Message) → at_stamp ms s ≡ Some m → at_stamp ns s ≡ Some m

-- where the tries of two sets have one hash at the root, the sets have the same timestamps
abbrev pub RootsTell : List Message → List Message → Type 0
RootsTell ms ns = trie_of (pairs_of ms) [] ≡ trie_of (pairs_of ns) [] → HaveSameStamps ms ns

-- Two devices that had the messages m and n, and a server whose group was empty, have agreed in turns: the first, the other, and the first again.
-- After each turn the device and the server have one hash at the root. Where that means the same timestamps, and equal timestamps
-- mean equal messages, all three have joined both sets at the end.
pub record Meet (m n p q : List Message) (last : PeerState) : Type 0 where
  -- what the first device has after its first turn, and what the server has after each turn
  pub between : List Message
  pub one : List Message
  pub two : List Message
  pub three : List Message
  pub is_last : last.messages ≡ Some three
  pub root_one : trie_of (pairs_of between) [] ≡ trie_of (pairs_of one) []
  pub root_two : trie_of (pairs_of q) [] ≡ trie_of (pairs_of two) []
  pub root_three : trie_of (pairs_of p) [] ≡ trie_of (pairs_of three) []
  pub sets : RootsTell between one → RootsTell q two → RootsTell p three → HaveOneEach m n → (p ≡ join m n) × ((q ≡ join m n) × (three ≡ join m n))

-- what a device says of itself to the server behind a link
abbrev pub peer : Target
peer = record { token = token; file = file; group = group }

-- A device talked with that server at a reading of the wall clock, until both agreed, as after some text of a last sync or as without one: which
-- text that is, `sync` says, and not this record. It is told
-- how many requests that took, of which each has its exchange, and by how many messages the device has more.
pub record Talks (reading : ℕ) (s now : State) (old new : List Exchange) (synced : Synced) : Type 0 where
  pub last : Option (List ℕ)
  pub turns : List Turn
  pub talk : Talk peer reading most_requests (first_since last reading) s turns now agreed
  pub added : new ≡ old ++ map exchange_of turns
  pub requests : synced.requests ≡ length turns
  pub received : synced.received ≡ length now.messages - length s.messages

-- the talks of a meeting, each at its reading: of the first device, of the other, and of the first one again
pub record TalkInTurn (readings : List ℕ) (one other one_now other_now : State) (old new : List Exchange) (met : Met) : Type 0 where
  -- the first device after its first talk, and the exchanges after each talk but the last
  pub between : State
  pub then : List Exchange
  pub later : List Exchange
  pub first : Talks (slice_index readings 0) one between old then met.first
  pub second : Talks (slice_index readings 1) other other_now then later met.other
  pub third : Talks (slice_index readings 2) between one_now later new met.again
