use Rattle.std.proofs.Common.{◌≡◌, ◌<◌, true, false, arith, ap, sym, ◌∙◌}
use Rattle.std.specs.Ordering.{is_eq}
use Rattle.hybrid_clock.specs.Order.{stamp_cmp}
use Rattle.field_merge.specs.Stamps.{stamp_of}
use Rattle.field_merge.proofs.Orders.{stamps_alike}
use Rattle.field_merge.proofs.Links.{looked_all, looked_first, looked_found, looked_next}
use Rattle.field_merge.proofs.stamps.has.Goals as goal

pub back-init : goal.back-init
back-init c = looked_first c.args.heads.now c.args.kept.now c.args.bucket c.args.stamp.now c.requires.stored c.requires.within c.requires.bucket

pub returns-then-eq : goal.returns-then-eq
returns-then-eq c =
    let some : 0 < c.back.at = omega arith in
    let same : is_eq (stamp_cmp c.args.stamp.now (stamp_of c.index-kept-at.result)) ≡ true =
    ap (λ t. is_eq (stamp_cmp c.args.stamp.now t)) (sym c.stamp.ensures) ∙ sym (stamps_alike c.args.stamp.now c.stamp.result) ∙ sym c.eq.ensures ∙ c.if-eq.true in
    sym (looked_found _ c.args.kept.now c.args.bucket c.args.stamp.now c.back.at c.index-kept-at.result c.back.invariant some c.index-kept-at.is same)

pub back-preserved : goal.back-preserved
back-preserved c =
    let some : 0 < c.back.at = omega arith in
    let other : is_eq (stamp_cmp c.args.stamp.now (stamp_of c.index-kept-at.result)) ≡ false =
    ap (λ t. is_eq (stamp_cmp c.args.stamp.now t)) (sym c.stamp.ensures) ∙ sym (stamps_alike c.args.stamp.now c.stamp.result) ∙ sym c.eq.ensures ∙ c.if-eq.false in
    looked_next c.args.heads.now c.args.kept.now c.args.bucket c.args.stamp.now c.back.at c.index-kept-at.result c.requires.stored c.requires.bucket c.back.invariant some c.index-kept-at.is other

pub returns : goal.returns
returns c =
    let ended : c.back.at ≡ 0 = omega arith in
    sym (looked_all _ c.args.kept.now c.args.bucket c.args.stamp.now c.back.at c.back.invariant ended)
