use Rattle.std.proofs.Common.{◌≡◌, ◌∙◌, ◌+◌, ◌++◌, ◌∷◌, [], List, sym, ap, subst, arith, cond, length, take}
use Rattle.std.proofs.lemmas.List.{take_all, take_more}
use Rattle.std.specs.BTreeMap.{values}
use Rattle.field_merge.specs.declared.message.Message.{Message}
use Rattle.field_merge.specs.Log.{join, join_one}
use Rattle.field_merge.proofs.Joining.{again, in_any_order, in_turn}
use Rattle.field_merge.proofs.Stored.{are-changed, length-join_one, rising_from}
use Rattle.field_merge.proofs.log.Log.join.Goals as goal
use Rattle.field_merge.proofs.log.Log.join.Goals.{then-branch, else-branch}

pub loop-message-preserved : goal.loop-message-preserved
loop-message-preserved c =
    let old = values c.loop-message.self-inside.messages in
    let more = take_more c.args.batch.now c.loop-message.message-index c.message-item.result (omega arith) in
    let longer : length (values c.take_in.new.messages) ≡ length (values c.loop-message.self-inside.messages) + cond c.in_ok-take_in.field-0 1 0 =
    ap length c.in_ok-take_in.ensures.joined ∙ length-join_one (values c.loop-message.self-inside.messages) c.message-item.result c.in_ok-take_in.field-0 c.in_ok-take_in.ensures.fresh in
    record {
      stands = c.in_ok-take_in.ensures.stands;
      right = c.in_ok-take_in.ensures.right;
      joined =
          c.in_ok-take_in.ensures.joined
          ∙ ap (λ ms. join_one ms c.message-item.result) c.loop-message.invariant.joined
          ∙ in_turn (values c.self.inside.messages) (take c.loop-message.message-index c.args.batch.now) (c.message-item.result ∷ [])
          ∙ ap (λ ns. join (values c.self.inside.messages) ns) (ap (λ x. take c.loop-message.message-index c.args.batch.now ++ x ∷ []) c.message-item.is ∙ sym more);
      spent = c.loop-message.invariant.spent;
      small = elim c.if-branch.branch [ then-branch w ↦ omega arith | else-branch w ↦ omega arith ];
      count = elim c.if-branch.branch [
        | then-branch w ↦
            let one : length (values c.take_in.new.messages) ≡ length (values c.loop-message.self-inside.messages) + 1 = longer ∙ ap (λ b. length (values c.loop-message.self-inside.messages) + cond b 1 0) w.if-branch.true in
            omega arith
        | else-branch w ↦
            let none : length (values c.take_in.new.messages) ≡ length (values c.loop-message.self-inside.messages) + 0 = longer ∙ ap (λ b. length (values c.loop-message.self-inside.messages) + cond b 1 0) w.if-branch.false in
            omega arith
      ];
      marked = c.in_ok-take_in.ensures.marked (values c.self.inside.messages) c.loop-message.invariant.marked;
    }

pub returns-clause-changed : goal.returns-clause-changed
returns-clause-changed c =
    rw (← c.self.view_is)
    (are-changed (values c.self.inside.messages) (values c.loop-message.self-inside.messages) c.loop-message.changed c.in_ok-changed.changed
    c.in_ok-changed.ensures.all c.in_ok-changed.ensures.ordered c.loop-message.invariant.marked)

pub returns-clause-again : goal.returns-clause-again
returns-clause-again c =
    let all = take_all c.loop-message.message-index c.args.batch.now (omega arith) in
    let is : values c.loop-message.self-inside.messages ≡ join (values c.self.inside.messages) c.args.batch.now = c.loop-message.invariant.joined ∙ ap (join (values c.self.inside.messages)) all in
    subst (λ (ms : List Message). join ms c.args.batch.now ≡ ms) (sym is) (again (values c.self.inside.messages) c.args.batch.now)

pub returns-clause-in_turn : goal.returns-clause-in_turn
returns-clause-in_turn c =
    rw (← c.self.view_is)
    (λ more.
    let all = take_all c.loop-message.message-index c.args.batch.now (omega arith) in
    let is : values c.loop-message.self-inside.messages ≡ join (values c.self.inside.messages) c.args.batch.now = c.loop-message.invariant.joined ∙ ap (join (values c.self.inside.messages)) all in
    ap (λ (ms : List Message). join ms more) is ∙ in_turn (values c.self.inside.messages) c.args.batch.now more)

pub returns-clause-any_order : goal.returns-clause-any_order
returns-clause-any_order c =
    rw (← c.self.view_is)
    (λ other one have.
    let all = take_all c.loop-message.message-index c.args.batch.now (omega arith) in
    let is : values c.loop-message.self-inside.messages ≡ join (values c.self.inside.messages) c.args.batch.now = c.loop-message.invariant.joined ∙ ap (join (values c.self.inside.messages)) all in
    let rising = rising_from c.self.inside.messages.entries c.self.invariant.entries_stand.own c.self.invariant.entries_stand.rising in
    is ∙ in_any_order (values c.self.inside.messages) c.args.batch.now other rising one have)
