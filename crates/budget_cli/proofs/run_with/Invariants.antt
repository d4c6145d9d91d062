use Rattle.budget_cli.proofs.run_with.Given as goal

-- the counter's ledger is the blank one's
abbrev pub ghosts-status_over : goal.ghosts-status_over
ghosts-status_over a given = record { name = given.blank.name; parts = given.blank.parts }
