use Rattle.std.proofs.Common.{◌∙◌}
use Rattle.minute_trie.specs.Trie.{trie_of}
use Rattle.minute_trie.proofs.Shapes.{of_pairs}
use Rattle.minute_trie.proofs.ReadBack.{right, same}
use Rattle.minute_trie.proofs.laws.reads_back.Goals as goal

pub returns : goal.returns
returns c = record { right = right; same = same; pairs = λ pairs trie fit r. record { same = r.same ∙ same (trie_of pairs) (of_pairs pairs fit) } }
