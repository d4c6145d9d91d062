use Rattle.peer_examples.proofs.cuts.add_sync.Given as goal

-- the counter's ledger is the blank one's
abbrev pub ghosts-synced : goal.ghosts-synced
ghosts-synced a = record { name = a.blank.name; parts = a.blank.parts }
