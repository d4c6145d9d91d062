use Rattle.world_examples.proofs.crowd.uncounted.Given as goal

-- the counter's ledger is the blank one's
abbrev pub ghosts-played : goal.ghosts-played
ghosts-played a = record { name = a.blank.name; parts = a.blank.parts }
