use Rattle.goal_templates.proofs.granting.shares_of.Given as goal

-- the counter's ledger is the blank one's
abbrev pub ghosts-shares_over : goal.ghosts-shares_over
ghosts-shares_over a = record { name = a.blank.name; parts = a.blank.parts }
