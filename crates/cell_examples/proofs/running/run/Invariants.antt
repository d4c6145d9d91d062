use Rattle.std.proofs.Common.{◌≡◌, [], false}
use Rattle.cell_examples.proofs.running.run.Given as goal

-- the device can be edited
abbrev pub invariant-loop-at : goal.invariant-loop-at
invariant-loop-at g l = record {
  live : l.device.spent ≡ false;
  idle : l.device.batch ≡ [];
}
