use Rattle.sync_laws.proofs.laws.tries_are_of_timestamps.Goals as goal

pub returns : goal.returns
returns c = c.answers_tell.ensures.trie
