use Rattle.fault_examples.proofs.spent.wants_in_device.Given as goal

-- the counter's ledger is the blank one's
abbrev pub ghosts-wants_to_receive : goal.ghosts-wants_to_receive
ghosts-wants_to_receive a = record { name = a.blank.name; parts = a.blank.parts }
