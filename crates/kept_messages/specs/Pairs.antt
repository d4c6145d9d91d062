-- The pairs of messages in a trie.
use Rattle.std.specs.Prelude.{List, map}
use Rattle.field_merge.specs.declared.message.Message.{Message}
use Rattle.minute_trie.specs.Trie.{Pair, stamp_pair}

-- each timestamp's minute, and the hash of its text
abbrev pub pairs_of : List Message → List Pair
pairs_of ms = map (λ m. stamp_pair m.stamp) ms
