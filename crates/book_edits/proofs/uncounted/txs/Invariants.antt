use Rattle.book_edits.proofs.uncounted.txs.Given as goal

-- the counter's ledger is the blank one's
abbrev pub ghosts-txs_over : goal.ghosts-txs_over
ghosts-txs_over a = record { name = a.blank.name; parts = a.blank.parts }
