use Rattle.std.proofs.Common.{refl}
use Rattle.std.proofs.lemmas.Bool.{ne_eqb}
use Rattle.minute_trie.specs.Diff.{end_of_walk}
use Rattle.minute_trie.proofs.trie.Trie.diff.Goals as goal

pub returns : goal.returns
unfolding end_of_walk
returns c = rw (c.hash.ensures, c.hash-2.ensures, ne_eqb c.hash.result c.hash-2.result c.if-hash.false, c.walk.ensures.number) refl
