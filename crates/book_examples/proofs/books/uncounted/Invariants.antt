use Rattle.book_examples.proofs.books.uncounted.Given as goal

-- the counter's ledger is the blank one's
abbrev pub ghosts-txs : goal.ghosts-txs
ghosts-txs a = record { name = a.blank.name; parts = a.blank.parts }
