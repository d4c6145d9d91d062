use Rattle.stop_examples.proofs.running.ended_by.Given as goal

-- the counter's ledger is the blank one's
abbrev pub ghosts-status_of : goal.ghosts-status_of
ghosts-status_of g a = record { name = a.blank.name; parts = a.blank.parts }
