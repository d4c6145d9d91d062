use Rattle.book_edits.proofs.uncounted.tx.Given as goal

-- the counter's ledger is the blank one's
abbrev pub ghosts-tx_over : goal.ghosts-tx_over
ghosts-tx_over a = record { name = a.blank.name; parts = a.blank.parts }
