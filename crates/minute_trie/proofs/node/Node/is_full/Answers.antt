use Rattle.std.proofs.Common.{◌≡◌, true, ◌&&◌, is_some, ap, sym, ◌∙◌}
use Rattle.minute_trie.specs.declared.node.Node.{out-Node}
use Rattle.minute_trie.proofs.Nodes.{both_there}
use Rattle.minute_trie.proofs.node.Node.is_full.Goals as goal

pub returns-then-is_some : goal.returns-then-is_some
returns-then-is_some c =
    let node = c.args.self.now in
    let one : is_some (out-Node node).one ≡ true = cc in
    c.is_some-then-is_some.ensures ∙ sym (both_there node ∙ ap (λ b. b && is_some (out-Node node).two) one)
