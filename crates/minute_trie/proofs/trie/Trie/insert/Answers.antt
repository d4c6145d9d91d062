use Rattle.std.proofs.Common.{List, [], ◌∷◌, ◌++◌, FitsSigned, OnOk, w32, rules, ap, ap₂, subst, ◌∙◌}
use Rattle.std.specs.Int.{cast_signed}
use Rattle.std.proofs.lemmas.Int.{to_z-of_z}
use Rattle.minute_trie.specs.Murmur.{murmur}
use Rattle.minute_trie.specs.Trie.{Pair, IsTrieOf}
use Rattle.minute_trie.proofs.trie.Trie.insert.Goals as goal

pub returns-clause-inserted : goal.returns-clause-inserted
returns-clause-inserted c =
    let fits : FitsSigned w32 c.cast_signed.result = search rules in
    let hash = to_z-of_z w32 c.cast_signed.result fits ∙ c.cast_signed.ensures ∙ ap (cast_signed w32) (c.hash32.ensures ∙ ap murmur c.write_text.ensures.text) in
    let P : Pair → Type 0 = λ p. OnOk c.insert_hash.result ((pairs : List Pair) → IsTrieOf pairs c.args.self.now → IsTrieOf (pairs ++ p ∷ []) c.insert_hash.new.self) in
    subst P (ap₂ (λ m z. (m, z)) c.minute.ensures hash) c.insert_hash.ensures.inserted
