use Rattle.std.proofs.Common.{ap, ◌∙◌}
use Rattle.std.proofs.lemmas.List.{map-append}
use Rattle.minute_trie.specs.Pruned.{kept}
use Rattle.minute_trie.specs.Trie.{entry_of, entries_of}
use Rattle.minute_trie.proofs.Gone.{gone}
use Rattle.minute_trie.proofs.laws.pruned_for_good.Goals as goal

pub returns : goal.returns
returns c pairs more p there out = ap (λ es. kept es p) (map-append entry_of pairs more) ∙ gone (entries_of pairs) (entries_of more) p there out
