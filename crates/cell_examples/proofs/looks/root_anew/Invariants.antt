use Rattle.std.proofs.Common.{◌≡◌, false}
use Rattle.minute_trie.specs.Trie.{is_spent}
use Rattle.cell_examples.proofs.looks.root_anew.Given as goal

-- the trie can be added to
abbrev pub invariant-loop-message : goal.invariant-loop-message
invariant-loop-message l = is_spent l.trie ≡ false
