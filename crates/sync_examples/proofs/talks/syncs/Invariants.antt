use Rattle.std.proofs.Common.{◌≡◌, [], false}
use Rattle.sync_examples.proofs.talks.syncs.Given as goal

-- the device can be used
abbrev pub invariant-syncs : goal.invariant-syncs
invariant-syncs l = record { live : l.device.spent ≡ false; idle : l.device.batch ≡ [] }

-- the counter's ledger is the blank one's
abbrev pub ghosts-uncounted : goal.ghosts-uncounted
ghosts-uncounted a = record { name = a.blank.name; parts = a.blank.parts }
