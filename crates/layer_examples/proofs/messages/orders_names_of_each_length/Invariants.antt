use Rattle.std.proofs.Common.{◌≡◌, false}
use Rattle.layer_examples.proofs.messages.orders_names_of_each_length.Given as goal

abbrev pub invariant-loop-place : goal.invariant-loop-place
invariant-loop-place g l = l.latest.spent ≡ false
