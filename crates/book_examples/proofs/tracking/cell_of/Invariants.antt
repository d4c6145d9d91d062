use Rattle.book_examples.proofs.tracking.cell_of.Given as goal

-- the counter's ledger is the blank one's
abbrev pub ghosts-cell_over : goal.ghosts-cell_over
ghosts-cell_over a = record { name = a.blank.name; parts = a.blank.parts }
