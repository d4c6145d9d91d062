-- What a server did for the request of a device.
use Rattle.std.specs.Prelude.{◌≡◌, ◌≢◌, ℕ, ◌^◌, ◌<◌, List, [], ◌∷◌, length, reverse, Bool, true, false, not, Some, Ok}
use Rattle.std.specs.List.{list_all}
use Rattle.std.specs.FinMap.{get}
use Rattle.httparse.specs.Grammar.{is_value_byte, is_ows}
use Rattle.budget_ports.specs.Contents.{Contents, records_after}
use Rattle.budget_ports.specs.Exchanges.{ended}
use Rattle.field_merge.specs.declared.message.Message.{Message}
use Rattle.field_merge.specs.Messages.{AreMessages}
use Rattle.kept_messages.specs.Records.{kept_set}
use Rattle.sync_wire.specs.declared.request.SyncRequest.{SyncRequest}
use Rattle.sync_server.specs.declared.served.Served.TheVariants as served
use Rattle.sync_server.specs.Outside.{HasFound}
use Rattle.sync_server.specs.Serving.{file_name, Visit, IsMeant, IsServed, kept_after}
use Rattle.device_sync.specs.Requests.{IsAsked}
use Rattle.device_sync.specs.Honest.{front_of, Served}

-- the first byte, if there is one, is no white space
abbrev pub begins_plain : List ℕ → Bool
begins_plain [] = true
begins_plain (b ∷ bs) = not (is_ows b)

-- the token can stand in a head: it has no control byte but the tab, and no white space at its ends
pub record FitsHead (token : List ℕ) : Type 0 where
  pub plain : list_all is_value_byte token ≡ true
  pub first : begins_plain token ≡ true
  pub last : begins_plain (reverse token) ≡ true

-- the request is one that a device makes
pub record IsOfDevice (q : SyncRequest) : Type 0 where
  pub plain : q.encrypted ≡ false
  pub since : q.since ≢ []
  pub valid : AreMessages q.messages

-- a server's contents have the group of the request for its file, and these messages in it
pub record HasGroup (k : Contents) (q : SyncRequest) (r : List Message) : Type 0 where
  pub file : get k.texts (file_name q.file) ≡ Some q.group
  pub set : kept_set (records_after k q.group []) ≡ Ok r

-- eighteen digits can write how many bytes there are
abbrev pub IsCountable : List ℕ → Type 0
IsCountable bytes = length bytes < 10 ^ 18

-- What came by the connection was the request of a device, the server has its group, and a whole reply was written, by which the answer is
-- meant. Then this was an exchange of an honest server whose group had the messages r, and has the messages s then.
abbrev pub ServedIsHonest : Type 0
ServedIsHonest = (token : List ℕ) (old : Contents) (q : SyncRequest) (r s : List Message) (visit : Visit) (status : ℕ)
    → FitsHead token → IsOfDevice q → IsAsked token q visit.came → HasGroup old q r → IsCountable visit.came → IsCountable visit.wrote
    → IsMeant visit.verdict → IsServed token (HasFound old) visit (served.Answered status)
    → kept_set (records_after (kept_after visit.verdict old) q.group []) ≡ Ok s
    → Served token r (ended visit.came (front_of visit.wrote)) s
