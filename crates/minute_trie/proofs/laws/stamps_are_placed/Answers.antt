use Rattle.minute_trie.proofs.Placing.{stamps_are_placed_lem}
use Rattle.minute_trie.proofs.laws.stamps_are_placed.Goals as goal

pub returns : goal.returns
returns c = stamps_are_placed_lem
