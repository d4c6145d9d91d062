use Rattle.std.proofs.Common.{◌≡◌, sym, ◌∙◌, subst, List, ℕ, Ok, arith, ap, rules}
use Rattle.hybrid_clock.specs.declared.stamp.Stamp.{Stamp}
use Rattle.hybrid_clock.specs.Reading.{read_stamp}
use Rattle.hybrid_clock.specs.Node.{is_zeros}
use Rattle.hybrid_clock.proofs.Passing.{read_parts, stamp_of}
use Rattle.hybrid_clock.proofs.Texts.{read_valid, read_text}
use Rattle.hybrid_clock.proofs.stamp.Stamp.parse.Goals as goal
use Rattle.hybrid_clock.proofs.stamp.Stamp.parse.Goals.{After-of}

read : (c : After-of) → Ok (stamp_of c.in-Some-millis_of.millis c.hex.result c.of.result) ≡ read_stamp c.args.text.now
read c =
    let same : c.in-Ok.bytes ≡ c.args.text.now = search rules in
    let P : List ℕ → Type 0 = λ t. Ok (stamp_of c.in-Some-millis_of.millis c.hex.result c.of.result) ≡ read_stamp t in
    subst P same (read_parts c.in-Ok.bytes c.in-Some-millis_of.millis c.hex.result c.of.result
    (omega arith) (sym c.misfit.ensures ∙ c.in_default-misfit.is) c.in-Some-millis_of.ensures c.if-minute-ge-WINDOW.false
    (ap is_zeros c.of.ensures ∙ sym c.is_zeros.ensures ∙ c.if-is_zeros.false) c.hex.ensures (c.of.ensures ∙ c.node_of-node.ensures))

pub returns-clause-is : goal.returns-clause-is
returns-clause-is c = read c

pub returns-clause-stamp : goal.returns-clause-stamp
returns-clause-stamp c =
    let s : Stamp = stamp_of c.in-Some-millis_of.millis c.hex.result c.of.result in
    (read_valid c.args.text.now s (sym (read c)), read_text c.args.text.now s (sym (read c)))

pub of-requires : goal.of-requires
of-requires c =
    let s : Stamp = stamp_of c.in-Some-millis_of.millis c.hex.result c.node_of-node.result in
    let made : Ok s ≡ read_stamp c.in-Ok.bytes = read_parts c.in-Ok.bytes c.in-Some-millis_of.millis c.hex.result c.node_of-node.result
    (omega arith) (sym c.misfit.ensures ∙ c.in_default-misfit.is) c.in-Some-millis_of.ensures c.if-minute-ge-WINDOW.false
    (sym c.is_zeros.ensures ∙ c.if-is_zeros.false) c.hex.ensures c.node_of-node.ensures in
    (read_valid c.in-Ok.bytes s (sym made)).node
