use Rattle.std.proofs.Common.{◌∙◌, sym, ap, not, Some, cond, ◌&&◌, ◌||◌}
use Rattle.std.specs.BTreeMap.{values}
use Rattle.std.specs.BTreeSet.{contains}
use Rattle.field_values.specs.Names.{names_cmp}
use Rattle.field_merge.specs.Log.{by_stamp, has_field, has_stamp, latest, placed}
use Rattle.field_merge.proofs.Members.{none_from_any}
use Rattle.field_merge.proofs.Stored.{any-own, join-fresh, join-there, marks-placed, names_flip}
use Rattle.field_merge.proofs.index.take_in.Goals as goal

pub returns-then-is_known-clause-joined : goal.returns-then-is_known-clause-joined
returns-then-is_known-clause-joined c =
    join-there (values c.args.messages.now) c.args.message.now
    (any-own c.args.messages.now.entries c.requires.stands.own c.args.message.now.stamp ∙ sym c.is_known.ensures ∙ c.if-is_known.true)

pub returns-then-is_known-clause-fresh : goal.returns-then-is_known-clause-fresh
returns-then-is_known-clause-fresh c =
    sym (ap not (any-own c.args.messages.now.entries c.requires.stands.own c.args.message.now.stamp ∙ sym c.is_known.ensures ∙ c.if-is_known.true))

pub returns-in_ok-mark-clause-joined : goal.returns-in_ok-mark-clause-joined
returns-in_ok-mark-clause-joined c =
    let lacks = any-own c.args.messages.now.entries c.requires.stands.own c.args.message.now.stamp ∙ sym c.is_known.ensures ∙ c.if-is_known.false in
    c.in_ok-enter.ensures.placed ∙ ap (placed by_stamp (values c.args.messages.now)) c.in_ok-copy.ensures ∙ join-fresh (values c.args.messages.now) c.args.message.now lacks

pub returns-in_ok-mark-clause-fresh : goal.returns-in_ok-mark-clause-fresh
returns-in_ok-mark-clause-fresh c =
    sym (ap not (any-own c.args.messages.now.entries c.requires.stands.own c.args.message.now.stamp ∙ sym c.is_known.ensures ∙ c.if-is_known.false))

pub returns-in_ok-mark-clause-marked : goal.returns-in_ok-mark-clause-marked
returns-in_ok-mark-clause-marked c =
    λ before h.
    let ms = values c.args.messages.now in
    let n = c.args.message.now in
    let copy = c.in_ok-copy.ensures in
    let lacks = any-own c.args.messages.now.entries c.requires.stands.own c.args.message.now.stamp ∙ sym c.is_known.ensures ∙ c.if-is_known.false in
    marks-placed before (values c.args.messages.now) (values c.enter.new.messages) c.args.changed.now c.mark.new.changed c.args.message.now c.in_ok-enter.field-0
    (none_from_any (has_stamp c.args.message.now.stamp) (values c.args.messages.now) lacks)
    (c.in_ok-enter.ensures.placed ∙ ap (placed by_stamp (values c.args.messages.now)) copy)
    (λ f. c.in_ok-enter.ensures.wins f ∙ (λ i. cond (c.in_ok-enter.field-0 && has_field f (copy i)) (Some (copy i)) (latest (values c.args.messages.now) f)))
    (λ f. c.in_ok-mark.ensures f ∙ (λ i. names_flip c.args.message.now.field f i || contains names_cmp c.args.changed.now f) ∙ (λ i. (sym c.if-branch.true i && has_field f c.args.message.now) || contains names_cmp c.args.changed.now f))
    h

pub returns-else-branch-clause-joined : goal.returns-else-branch-clause-joined
returns-else-branch-clause-joined c =
    let lacks = any-own c.args.messages.now.entries c.requires.stands.own c.args.message.now.stamp ∙ sym c.is_known.ensures ∙ c.if-is_known.false in
    c.in_ok-enter.ensures.placed ∙ ap (placed by_stamp (values c.args.messages.now)) c.in_ok-copy.ensures ∙ join-fresh (values c.args.messages.now) c.args.message.now lacks

pub returns-else-branch-clause-fresh : goal.returns-else-branch-clause-fresh
returns-else-branch-clause-fresh c =
    sym (ap not (any-own c.args.messages.now.entries c.requires.stands.own c.args.message.now.stamp ∙ sym c.is_known.ensures ∙ c.if-is_known.false))

pub returns-else-branch-clause-marked : goal.returns-else-branch-clause-marked
returns-else-branch-clause-marked c =
    λ before h.
    let ms = values c.args.messages.now in
    let n = c.args.message.now in
    let copy = c.in_ok-copy.ensures in
    let lacks = any-own c.args.messages.now.entries c.requires.stands.own c.args.message.now.stamp ∙ sym c.is_known.ensures ∙ c.if-is_known.false in
    marks-placed before (values c.args.messages.now) (values c.enter.new.messages) c.args.changed.now c.args.changed.now c.args.message.now c.in_ok-enter.field-0
    (none_from_any (has_stamp c.args.message.now.stamp) (values c.args.messages.now) lacks)
    (c.in_ok-enter.ensures.placed ∙ ap (placed by_stamp (values c.args.messages.now)) copy)
    (λ f. c.in_ok-enter.ensures.wins f ∙ (λ i. cond (c.in_ok-enter.field-0 && has_field f (copy i)) (Some (copy i)) (latest (values c.args.messages.now) f)))
    (λ f. λ i. (sym c.if-branch.false i && has_field f c.args.message.now) || contains names_cmp c.args.changed.now f)
    h
