use Rattle.sync_server.proofs.Decided.{one_head, one_verdict, refused_by_head}
use Rattle.sync_server.proofs.laws.connections_are_decided.Goals as goal

pub returns : goal.returns
returns c = record { one_head = one_head; one_verdict = one_verdict; by_head = refused_by_head }
