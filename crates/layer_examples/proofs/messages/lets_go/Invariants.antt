use Rattle.std.proofs.Common.{◌≡◌, false}
use Rattle.layer_examples.proofs.messages.lets_go.Given as goal

abbrev pub invariant-loop-millis : goal.invariant-loop-millis
invariant-loop-millis g l = record { live : l.latest.spent ≡ false }
