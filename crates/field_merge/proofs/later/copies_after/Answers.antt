use Rattle.std.proofs.Common.{◌≡◌, ◌∙◌, ◌++◌, ◌∷◌, [], List, true, false, sym, ap, subst, append-nil}
use Rattle.std.specs.Prelude.{reverse}
use Rattle.std.specs.BTreeMap.{values}
use Rattle.field_merge.specs.declared.message.Message.{Message}
use Rattle.field_merge.specs.Messages.{AreMessages, IsMessage}
use Rattle.field_merge.specs.Log.{IsRising, is_after, messages_after}
use Rattle.field_merge.proofs.Stored.{rising_from}
use Rattle.field_merge.proofs.LastOnes.{all_front, at_end, later_front, none_later, rising_front, later_valid}
use Rattle.field_merge.proofs.later.copies_after.Goals as goal
use Rattle.field_merge.proofs.later.copies_after.Goals.{in-Some+then-not-is_after, in_default}

pub loop-message-init : goal.loop-message-init
loop-message-init c =
    let all = c.values-left.ensures.rest in
    record {
      told = (λ i. messages_after c.args.text.now (all i) ++ reverse (c.new-found.ensures.items i)) ∙ append-nil (messages_after c.args.text.now (values c.args.messages.now));
      rising = subst (λ (ms : List Message). IsRising ms) (sym all) (rising_from c.args.messages.now.entries c.requires.own c.requires.rising);
      valid = subst (λ (ms : List Message). AreMessages ms) (sym all) c.requires.valid;
    }

pub is_after-requires : goal.is_after-requires
is_after-requires c =
    (at_end IsMessage c.next_back.new.self c.in-Some.message.now
    (subst (λ (ms : List Message). AreMessages ms) c.in-Some.ensures.steps c.loop-message.invariant.valid)).stamp

pub loop-message-preserved : goal.loop-message-preserved
loop-message-preserved c =
    let text = c.args.text.now in
    let step : c.loop-message.left ≡ c.next_back.new.self ++ c.in-Some.message.now ∷ [] = c.in-Some.ensures.steps in
    let pushed : c.push.new.self.items ≡ c.loop-message.found.items ++ c.in-Some.message.now ∷ [] =
    c.in_ok-push.ensures.items ∙ ap (λ x. c.loop-message.found.items ++ x ∷ []) c.in_ok-own.ensures in
    let yes : is_after c.args.text.now c.in-Some.message.now ≡ true = sym c.is_after.ensures ∙ c.if-not-is_after.false in
    record {
      told =
          ap (λ found. messages_after c.args.text.now c.next_back.new.self ++ reverse found) pushed
          ∙ sym (later_front c.args.text.now c.next_back.new.self c.loop-message.found.items c.in-Some.message.now yes)
          ∙ ap (λ ms. messages_after c.args.text.now ms ++ reverse c.loop-message.found.items) (sym step)
          ∙ c.loop-message.invariant.told;
      rising = rising_front c.next_back.new.self c.in-Some.message.now (subst (λ (ms : List Message). IsRising ms) step c.loop-message.invariant.rising);
      valid = all_front IsMessage c.next_back.new.self c.in-Some.message.now (subst (λ (ms : List Message). AreMessages ms) step c.loop-message.invariant.valid);
    }

pub returns-clause-messages : goal.returns-clause-messages
returns-clause-messages c =
    c.reverse.ensures.items
    ∙ elim c.match-next_back.branch [
      | in-Some+then-not-is_after w ↦
          let step : c.loop-message.left ≡ c.next_back.new.self ++ w.in-Some.message.now ∷ [] = w.in-Some.ensures.steps in
          let no : is_after c.args.text.now w.in-Some.message.now ≡ false = sym w.is_after.ensures ∙ w.if-not-is_after.true in
          let none : messages_after c.args.text.now c.loop-message.left ≡ [] =
          ap (messages_after c.args.text.now) step
          ∙ none_later c.order_of_texts.ensures c.args.text.now c.next_back.new.self w.in-Some.message.now
          (subst (λ (ms : List Message). AreMessages ms) step c.loop-message.invariant.valid)
          (subst (λ (ms : List Message). IsRising ms) step c.loop-message.invariant.rising)
          no in
          ap (λ ns. ns ++ reverse c.loop-message.found.items) (sym none) ∙ c.loop-message.invariant.told
      | in_default w ↦
          ap (λ ms. messages_after c.args.text.now ms ++ reverse c.loop-message.found.items) (sym w.in_default.ensures.steps.0) ∙ c.loop-message.invariant.told
    ]

pub returns-clause-valid : goal.returns-clause-valid
returns-clause-valid c =
    subst (λ (ms : List Message). AreMessages ms) (sym (returns-clause-messages c)) (later_valid c.args.text.now (values c.args.messages.now) c.requires.valid)
