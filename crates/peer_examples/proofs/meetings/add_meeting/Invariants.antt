use Rattle.peer_examples.proofs.meetings.add_meeting.Given as goal

-- the counter's ledger is the blank one's
abbrev pub ghosts-uncounted : goal.ghosts-uncounted
ghosts-uncounted a = record { name = a.blank.name; parts = a.blank.parts }
