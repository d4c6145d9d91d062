use Rattle.fault_examples.proofs.spent.wants_to_add.Given as goal

-- the counter's ledger is the blank one's
abbrev pub ghosts-wants_to_edit : goal.ghosts-wants_to_edit
ghosts-wants_to_edit a = record { name = a.blank.name; parts = a.blank.parts }
