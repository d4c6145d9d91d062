use Rattle.std.proofs.Common.{ℕ, List, length, refl, sym, subst}
use Rattle.hybrid_clock.specs.Node.{IsNode}
use Rattle.hybrid_clock.proofs.Pieces.{at_the_end}
use Rattle.hybrid_clock.proofs.node.Node.padded.Goals as goal

pub returns : goal.returns
returns c =
    let same = c.copy_from_slice.ensures.after in
    rw same (at_the_end 16 (length c.args.text.now) c.args.text.now refl c.requires.short)

pub invariant_of-result : goal.invariant_of-result
invariant_of-result c = let P : List ℕ → Type 0 = λ node. IsNode node in subst P (sym (returns c)) c.requires.node
