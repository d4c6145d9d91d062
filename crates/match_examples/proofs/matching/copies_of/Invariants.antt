use Rattle.match_examples.proofs.matching.copies_of.Given as goal

-- the counter's ledger is the blank one's
abbrev pub ghosts-rows_of : goal.ghosts-rows_of
ghosts-rows_of a = record { name = a.blank.name; parts = a.blank.parts }
