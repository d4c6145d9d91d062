use Rattle.std.proofs.Common.{◌≡◌, None, Result, Ok, Err, OnErr, ◌∙◌, sym, ap, true, false}
use Rattle.std.specs.Option.{is_some}
use Rattle.std.specs.BTreeMap.{values}
use Rattle.field_merge.specs.Log.{at_stamp, has_stamp}
use Rattle.field_merge.proofs.Members.{none_from_any}
use Rattle.field_merge.proofs.Stored.{any-own, changed-where_wins, flag-none, join-fresh, join-there, lookup-own}
use Rattle.field_merge.proofs.log.Log.enter.Goals as goal

pub returns-then-is_known-clause-joined : goal.returns-then-is_known-clause-joined
returns-then-is_known-clause-joined c =
    rw (← c.self.view_is)
    (join-there (values c.self.inside.messages) c.args.message
    (any-own c.self.inside.messages.entries c.self.invariant.entries_stand.own c.args.message.stamp ∙ sym c.is_known.ensures ∙ c.if-is_known.true))

pub returns-then-is_known-clause-fresh : goal.returns-then-is_known-clause-fresh
returns-then-is_known-clause-fresh c =
    rw (← c.self.view_is)
    (flag-none (at_stamp (values c.self.inside.messages) c.args.message.stamp) true
    (ap is_some (sym (lookup-own c.self.inside.messages.entries c.self.invariant.entries_stand.own c.args.message.stamp)) ∙ sym c.is_known.ensures ∙ c.if-is_known.true))

pub returns-clause-joined : goal.returns-clause-joined
returns-clause-joined c =
    rw (← c.self.view_is)
    (c.in_ok-latest.ensures.placed
    ∙ join-fresh (values c.self.inside.messages) c.args.message
    (any-own c.self.inside.messages.entries c.self.invariant.entries_stand.own c.args.message.stamp ∙ sym c.is_known.ensures ∙ c.if-is_known.false))

pub returns-clause-fresh : goal.returns-clause-fresh
returns-clause-fresh c =
    rw (← c.self.view_is)
    (flag-none (at_stamp (values c.self.inside.messages) c.args.message.stamp) false
    (ap is_some (sym (lookup-own c.self.inside.messages.entries c.self.invariant.entries_stand.own c.args.message.stamp)) ∙ sym c.is_known.ensures ∙ c.if-is_known.false))

pub returns-clause-changed : goal.returns-clause-changed
returns-clause-changed c =
    rw (← c.self.view_is)
    (changed-where_wins (values c.self.inside.messages) (values c.enter.new.messages) c.args.message c.in_ok-latest.latest
    (none_from_any (has_stamp c.args.message.stamp) (values c.self.inside.messages)
    (any-own c.self.inside.messages.entries c.self.invariant.entries_stand.own c.args.message.stamp ∙ sym c.is_known.ensures ∙ c.if-is_known.false))
    (c.in_ok-latest.ensures.wins c.args.message.field))

-- what holds whatever the result is
after_err : {A E : Type 0} (r : Result A E) (P : Type 0) → P → OnErr r P
after_err (Ok x) P p = tt
after_err (Err e) P p = p

pub returns-in_err-latest-clause-memory : goal.returns-in_err-latest-clause-memory
returns-in_err-latest-clause-memory c =
    after_err c.from_residual.result (at_stamp c.args.self.now.messages c.args.message.stamp ≡ None)
    (rw (← c.self.view_is)
    (none_from_any (has_stamp c.args.message.stamp) (values c.self.inside.messages)
    (any-own c.self.inside.messages.entries c.self.invariant.entries_stand.own c.args.message.stamp ∙ sym c.is_known.ensures ∙ c.if-is_known.false)))
