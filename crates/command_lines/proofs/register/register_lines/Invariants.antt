use Rattle.command_lines.proofs.register.register_lines.Given as goal

-- the counter's ledger is the blank one's
abbrev pub ghosts-placed_lines : goal.ghosts-placed_lines
ghosts-placed_lines a = record { name = a.blank.name; parts = a.blank.parts }
