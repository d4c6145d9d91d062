use Rattle.sync_server.proofs.Elsewhere.{elsewhere}
use Rattle.sync_server.proofs.Requests.{grows}
use Rattle.sync_server.proofs.Decided.{nothing_kept, answered_ok}
use Rattle.sync_server.specs.Serving.{batch_of}
use Rattle.std.proofs.Common.{refl}
use Rattle.sync_server.proofs.laws.accepted_are_kept.Goals as goal

pub returns : goal.returns
returns c = record {
  alone = nothing_kept;
  joined = grows;
  others = λ k q ms group n. elsewhere k q.group group (batch_of ms q) n;
  texts = λ k q ms. refl;
  answered = answered_ok;
}
