-- No line loses a message, and what was answered stays.
use Rattle.budget_top.specs.Course.{after}
use Rattle.device_core.specs.Accepting.{AcceptedAreJoined}
use Rattle.budget_top.proofs.NeverLost.{step_keeps, held_keeps, some_keeps}
use Rattle.sync_laws.specs.Staying.{AnsweredLinesStay}

pub lines_stay : AcceptedAreJoined → AnsweredLinesStay
lines_stay law = record {
  lines = step_keeps law;
  handled = λ target start answered entry c holds. held_keeps law target start answered entry c (after target start answered) holds (λ m c. c);
  in_hand = some_keeps law;
}
