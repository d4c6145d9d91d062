-- A link whose far end is a server.
use Rattle.std.specs.Prelude.{◌≡◌, ◌≤◌, ℕ, suc, List, [], ◌∷◌, ◌++◌, length, filter, Option, None, Some}
use Rattle.std.specs.Option.{is_some}
use Rattle.std.specs.List.{AllByRecursion}
use Rattle.budget_ports.specs.Exchanges.{Exchange, begun, ended, IsOpen}
use Rattle.budget_ports.specs.Script.{open_one}
use Rattle.field_merge.specs.declared.message.Message.{Message}
use Rattle.sync_wire.specs.declared.request.SyncRequest.{SyncRequest}
use Rattle.device_sync.specs.Honest.{Served, Honest, AreWithin}
use Rattle.device_sync.specs.Replies.{most_bytes}
use Rattle.device_sync.specs.Requests.{IsAsked}
use Rattle.device_sync.specs.Served.{IsOfDevice}
use Rattle.peer_link.specs.Place.{token, file, group}

-- what a device asks of the server's group
pub record IsOfGroup (q : SyncRequest) : Type 0 where
  pub device : IsOfDevice q
  pub file_is : q.file ≡ file
  pub group_is : q.group ≡ group

-- bytes are the text of such a request
pub record AsksGroup (sent : List ℕ) : Type 0 where
  pub request : SyncRequest
  pub fits : IsOfGroup request
  pub asked : IsAsked token request sent

-- the exchanges by which bytes came back, in order
abbrev pub answered : List Exchange → List Exchange
answered xs = filter (λ x. is_some x.got) xs

-- All exchanges, the messages of the server's group, and how often a call has failed. Where the server was asked and its answer could not
-- be given, the messages are not told any more.
pub record PeerState : Type 0 where
  pub exchanges : List Exchange
  pub messages : Option (List Message)
  pub faults : ℕ

-- What came back was said by an honest server, which began with an empty group and has these messages now. Each time it was asked for its
-- group by a device, and what it said was not too long. Once an answer was lost, nothing has come back for what was sent last.
pub record IsPeer (p : PeerState) : Type 0 where
  pub honest : (ms : List Message) → p.messages ≡ Some ms → Honest token [] (answered p.exchanges) ms
  pub within : AreWithin (answered p.exchanges)
  pub asked : AllByRecursion (λ x. AsksGroup x.sent) (answered p.exchanges)
  pub lost : p.messages ≡ None → IsOpen (Some p.exchanges)

-- the exchanges by which bytes came back, or that were given up, and the bytes for which nothing has come back yet, with what is told of the rest
abbrev pub peer_of : List Exchange → Option (List ℕ) → Option (List Message) → ℕ → PeerState
peer_of done asked messages faults = record { exchanges = done ++ open_one asked; messages = messages; faults = faults }

-- so it is of a link that has these; where nothing is open the last of the others is not
pub record IsLinked (done : List Exchange) (asked : Option (List ℕ)) (messages : Option (List Message)) (faults : ℕ) : Type 0 where
  pub peer : IsPeer (peer_of done asked messages faults)
  pub closed : asked ≡ None → IsOpen (Some done) → ⊥

-- the bytes that came were answered so by a server that had the messages r, and has the messages s then
pub record IsAnswered (r : List Message) (came reply : List ℕ) (s : List Message) : Type 0 where
  pub served : Served token r (ended came reply) s
  pub within : length reply ≤ most_bytes

-- the same of a server that may be lost: it was not, and is not
pub record Answers (old new : Option (List Message)) (came reply : List ℕ) : Type 0 where
  pub asks : AsksGroup came
  pub had : List Message
  pub had_it : old ≡ Some had
  pub has : List Message
  pub has_it : new ≡ Some has
  pub answered_so : IsAnswered had came reply has

-- these bytes were sent last, and nothing has come back for them
abbrev pub IsLast : PeerState → List ℕ → Type 0
IsLast p sent = (front : List Exchange) × (p.exchanges ≡ front ++ begun sent ∷ [])

-- what was sent last and has no reply yet, if anything, is no request of a device for the group
abbrev pub IsForeign : PeerState → Type 0
IsForeign p = (sent : List ℕ) → IsLast p sent → AsksGroup sent → ⊥

-- a reply came back: a device has asked for the group, and the server has answered
pub record Receives (old new : PeerState) (reply : List ℕ) : Type 0 where
  pub front : List Exchange
  pub sent : List ℕ
  pub before : old.exchanges ≡ front ++ begun sent ∷ []
  pub after : new.exchanges ≡ front ++ ended sent reply ∷ []
  pub answers : Answers old.messages new.messages sent reply

-- so many exchanges are at an end: all, but for one for which nothing has come back yet
pub record HasEnded (p : PeerState) (count : ℕ) : Type 0 where
  pub one_open : IsOpen (Some p.exchanges) → length p.exchanges ≡ suc count
  pub none_open : (IsOpen (Some p.exchanges) → ⊥) → length p.exchanges ≡ count
