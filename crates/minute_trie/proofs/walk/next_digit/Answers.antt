use Rattle.std.proofs.Common.{[], ◌∷◌}
use Rattle.minute_trie.specs.declared.key.Digit.TheVariants.{Zero, One, Two}
use Rattle.minute_trie.proofs.Nodes.{at_open}
use Rattle.minute_trie.proofs.walk.next_digit.Goals as goal

pub returns : goal.returns
returns c =
    let l = c.args.left.now in
    let r = c.args.right.now in
    rw (at_open l (Zero ∷ []), at_open l (One ∷ []), at_open l (Two ∷ []), at_open r (Zero ∷ []), at_open r (One ∷ []), at_open r (Two ∷ [])) (cc)
