-- What the server's keeper has.
use Rattle.std.specs.Prelude.{◌≡◌, ℕ, List, [], Some, Result, Ok, Err}
use Rattle.std.specs.FinMap.{get}
use Rattle.budget_ports.specs.Contents.{Contents, records_after}
use Rattle.field_merge.specs.declared.message.Message.{Message}
use Rattle.kept_messages.specs.Records.{kept_set}
use Rattle.sync_server.specs.declared.state.ServerState.{ServerState}
use Rattle.sync_server.specs.Serving.{file_name}
use Rattle.sync_server.specs.State.{Agrees}
use Rattle.peer_link.specs.Place.{token, file, group}

-- the messages, where all records keep one
abbrev pub or_none : Result (List Message) ℕ → List Message
or_none (Ok ms) = ms
or_none (Err index) = []

-- the messages that the group has
abbrev pub set_in : Contents → List Message
set_in k = or_none (kept_set (records_after k group []))

-- a server over these contents serves the group
pub record Serves (state : ServerState) (k : Contents) : Type 0 where
  pub token_is : state.token ≡ token
  pub agrees : Agrees state k
  pub file_is : get k.texts (file_name file) ≡ Some group
  pub set_is : kept_set (records_after k group []) ≡ Ok (set_in k)
