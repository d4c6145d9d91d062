-- From what a node holds to what a trie is.
use Rattle.std.proofs.Common.{◌≡◌, ℕ, ℤ, List, [], ◌∷◌, ◌++◌, w32, sym, ap, ◌∙◌}
use Rattle.std.specs.Int.{cast_unsigned}
use Rattle.std.proofs.Math.Path.{fun_ext}
use Rattle.std.proofs.lemmas.List.{map-append}
use Rattle.minute_trie.specs.Key.{key}
use Rattle.minute_trie.specs.Pruned.{pruned}
use Rattle.minute_trie.specs.Held.{Held}
use Rattle.minute_trie.specs.Trie.{Pair, entry_of, entries_of, trie_of}
use Rattle.minute_trie.specs.Adding.{added}
use Rattle.minute_trie.proofs.Adding.{added_pruned}

-- one pair more
pub pair_added : (pairs : List Pair) (minute : ℕ) (hash : ℤ) (old : Held) → old ≡ trie_of pairs → added (key minute) (cast_unsigned w32 hash) old ≡ trie_of (pairs ++ (minute, hash) ∷ [])
pair_added pairs minute hash old is =
    ap (added (key minute) (cast_unsigned w32 hash)) is ∙ fun_ext (added_pruned (key minute) (cast_unsigned w32 hash) (entries_of pairs))
    ∙ ap pruned (sym (map-append entry_of pairs ((minute, hash) ∷ [])))
