use Rattle.minute_trie.proofs.Shapes.{of_stamp, of_pairs, of_text, of_added}
use Rattle.minute_trie.proofs.laws.tries_are_maps.Goals as goal

pub returns : goal.returns
returns c = record { of_stamp = of_stamp; of_pairs = of_pairs; of_text = of_text; added = of_added }
