use Rattle.std.proofs.Common.{◌≡◌, ◌<◌, ◌+◌, ◌^◌, List, length, set, arith, sym, subst}
use Rattle.field_merge.specs.declared.stamps.Kept.{Kept}
use Rattle.field_merge.specs.Stamps.{IsStored}
use Rattle.field_merge.proofs.Links.{stored_more}
use Rattle.field_merge.proofs.stamps.append.Goals as goal

pub returns-clause-stored : goal.returns-clause-stored
returns-clause-stored c =
    let long = c.args.kept.now.ok.0 in
    let more = c.in_ok-push.ensures.len in
    let now = c.len-2.ensures in
    let counted : c.len-2.result ≡ length c.args.kept.now.items + 1 = omega (arith, long, more, now) in
    let small : c.len-2.result < 2 ^ 32 = omega (arith, long, more, now) in
    subst (λ (ks : List Kept). IsStored (set c.args.heads.now c.args.bucket c.len-2.result) ks) (sym c.in_ok-push.ensures.items)
    (stored_more c.args.heads.now c.args.kept.now.items c.args.bucket c.len-2.result c.args.stamp _ c.requires.stored c.requires.within c.requires.bucket c.of.ensures.same c.of.ensures.before counted small)
