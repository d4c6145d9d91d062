-- What the server knows by itself.
use Rattle.std.specs.Prelude.{◌≡◌, ◌≢◌, ℕ, List, [], Option, Some, Result, Ok}
use Rattle.std.specs.BTreeMap.{get}
use Rattle.budget_ports.specs.Contents.{Contents, Text, text_cmp, records_after}
use Rattle.field_merge.specs.declared.message.Message.{Message}
use Rattle.field_merge.specs.Log.{join}
use Rattle.kept_messages.specs.Records.{kept_set}
use Rattle.sync_wire.specs.declared.request.SyncRequest.{SyncRequest}
use Rattle.sync_server.specs.declared.state.ServerState.{ServerState}
use Rattle.sync_server.specs.Serving.{Verdict, Accepts}

-- what it has read of a group, where it has: its message set, or the place of its first record that keeps no message
abbrev pub read_of : ServerState → Text → Option (Result (List Message) ℕ)
read_of state group = get text_cmp state.groups group

-- what it has read of each group is so of the keeper's group
abbrev pub Agrees : ServerState → Contents → Type 0
Agrees state k = (group : Text) (set : Result (List Message) ℕ) → read_of state group ≡ Some set → kept_set (records_after k group []) ≡ set

-- of an accepted request it knows the group with the new messages, and of all other groups what it knew
pub record Remembers (old new : ServerState) (v : Verdict) : Type 0 where
  pub token : new.token ≡ old.token
  pub group : (ms : List Message) (q : SyncRequest) → v ≡ Accepts ms q → read_of new q.group ≡ Some (Ok (join ms q.messages))
  pub others : (ms : List Message) (q : SyncRequest) (group : Text) → v ≡ Accepts ms q → group ≢ q.group → read_of new group ≡ read_of old group
