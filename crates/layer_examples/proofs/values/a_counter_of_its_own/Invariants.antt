use Rattle.layer_examples.proofs.values.a_counter_of_its_own.Given as goal

-- the counter's ledger is the blank one's
abbrev pub ghosts-two_steps_over : goal.ghosts-two_steps_over
ghosts-two_steps_over g a = record { name = a.blank.name; parts = a.blank.parts }
