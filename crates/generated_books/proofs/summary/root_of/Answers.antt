use Rattle.std.proofs.Common.{◌≡◌, ◌∙◌, rules, to_z, of_z, w32}
use Rattle.std.proofs.lemmas.Int.{to_z-of_z}
use Rattle.generated_books.proofs.Told.{root_is}
use Rattle.generated_books.proofs.summary.root_of.Goals as goal

pub returns : goal.returns
returns c =
    let same : to_z w32 (of_z w32 c.root.result) ≡ c.root.result = to_z-of_z w32 c.root.result (search rules) in
    same ∙ c.root.ensures ∙ root_is c.args.device.now.state.messages c.trie.result.now c.trie.ensures.trie
