use Rattle.book_examples.proofs.tracking.lines_over.Given as goal

-- the counter's ledger is the blank one's
abbrev pub ghosts-sheet_over : goal.ghosts-sheet_over
ghosts-sheet_over a = record { name = a.blank.name; parts = a.blank.parts }
