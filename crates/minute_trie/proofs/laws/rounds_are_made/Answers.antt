use Rattle.minute_trie.proofs.RoundsMade.{made, pairs_then}
use Rattle.minute_trie.proofs.laws.rounds_are_made.Goals as goal

pub returns : goal.returns
returns c = record { round = made; pairs = pairs_then }
