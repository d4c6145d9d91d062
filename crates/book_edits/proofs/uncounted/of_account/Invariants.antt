use Rattle.book_edits.proofs.uncounted.of_account.Given as goal

-- the counter's ledger is the blank one's
abbrev pub ghosts-of_account_over : goal.ghosts-of_account_over
ghosts-of_account_over a = record { name = a.blank.name; parts = a.blank.parts }
