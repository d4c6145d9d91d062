-- That servers with equal groups answer equal requests by equal bytes.
use Rattle.std.specs.Prelude.{◌≡◌}
use Rattle.budget_ports.specs.Contents.{Contents, Text}
use Rattle.sync_wire.specs.declared.request.SyncRequest.{SyncRequest}
use Rattle.sync_server.specs.declared.served.Served.TheVariants as served
use Rattle.sync_server.specs.Outside.{HasFound}
use Rattle.sync_server.specs.Serving.{found_in, Visit, IsServed}

-- two contents give each file the same group, and each group the same message set, however they came to keep them
abbrev pub HaveEqualGroups : Contents → Contents → Type 0
HaveEqualGroups k c = (q : SyncRequest) → found_in k q ≡ found_in c q

-- of two connections with equal bytes, each answered with 200 over such contents by servers with one token, the answers are equal bytes
abbrev pub ServersAnswerEqually : Type 0
ServersAnswerEqually = (token : Text) (k c : Contents) (one other : Visit) → HaveEqualGroups k c → one.came ≡ other.came → IsServed token (HasFound k) one (served.Answered 200)
    → IsServed token (HasFound c) other (served.Answered 200) → one.wrote ≡ other.wrote
