use Rattle.std.proofs.Common.{◌≡◌, false}
use Rattle.minute_trie.specs.Trie.{is_spent}
use Rattle.layer_examples.proofs.tries.trie_of.Given as goal

abbrev pub invariant-loop-before : goal.invariant-loop-before
invariant-loop-before l = record { live : is_spent l.trie ≡ false }
