-- The names of the members of a node in JSON.
use Rattle.std.specs.Prelude.{ℕ, List, codes}
use Rattle.minute_trie.specs.declared.key.Digit.{Digit}
use Rattle.minute_trie.specs.declared.key.Digit.TheVariants.{Zero, One, Two}

-- that of the child behind a digit
abbrev pub child_name : Digit → List ℕ
child_name Zero = codes "0"
child_name One = codes "1"
child_name Two = codes "2"

-- that of the hash
abbrev pub hash_name : List ℕ
hash_name = codes "hash"
