use Rattle.std.proofs.Common.{sym, ◌∙◌, subst, ℕ, List}
use Rattle.hybrid_clock.specs.Node.{IsNode}
use Rattle.hybrid_clock.proofs.Nodes.{all_pass, padded_node}
use Rattle.hybrid_clock.proofs.node.Node.make.Goals as goal

pub padded-requires-clause-node : goal.padded-requires-clause-node
padded-requires-clause-node c =
    padded_node c.args.text.now c.if-text-gt16.false (all_pass c.args.text.now (sym c.bad_byte.ensures ∙ c.in_default.is)) (sym c.is_zeros.ensures ∙ c.if-is_zeros.false)

pub returns-clause-node : goal.returns-clause-node
returns-clause-node c =
    let P : List ℕ → Type 0 = λ node. IsNode node in
    subst P (sym c.padded.ensures)
    (padded_node c.args.text.now c.if-text-gt16.false
    (all_pass c.args.text.now (sym c.bad_byte.ensures ∙ c.in_default.is))
    (sym c.is_zeros.ensures ∙ c.if-is_zeros.false))
