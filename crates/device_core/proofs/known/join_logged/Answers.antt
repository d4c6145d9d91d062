use Rattle.std.proofs.Common.{◌≡◌, ◌∙◌, ◌∷◌, ◌++◌, ◌+◌, List, ap, sym, subst, drop, map, refl}
use Rattle.field_merge.specs.declared.message.Message.{Message}
use Rattle.field_merge.specs.Log.{join}
use Rattle.field_merge.specs.Messages.{AreMessages}
use Rattle.kept_messages.specs.Records.{record_of}
use Rattle.kept_messages.specs.News.{new_in}
use Rattle.kept_messages.proofs.Members.{from_place, batch_on}
use Rattle.device_core.proofs.Changes.{listed_others, no_marks}
use Rattle.device_core.proofs.known.join_logged.Goals as goal

pub loop-message-init : goal.loop-message-init
loop-message-init c = record {
  live = c.requires.live;
  trie_live = c.requires.trie_live;
  right = c.requires.right;
  rest = refl;
  batch = refl;
  valid = c.requires.valid;
  marks = no_marks c.args.log.now.messages c.new-marked.result c.new-marked.ensures.empty;
}

pub loop-message-preserved : goal.loop-message-preserved
loop-message-preserved c =
    let ms = c.args.messages.now in
    let i = c.loop-message.message-index in
    let m : Message = c.message-item.result in
    let later : List Message = drop (i + 1) ms in
    let step : drop i ms ≡ m ∷ later = from_place ms i m c.loop-message-test.true c.message-item.is in
    let old = c.loop-message.log.messages in
    let joined = c.in_ok-join_one.ensures.joined in record {
      live = c.in_ok-join_one.ensures.live;
      trie_live = c.in_ok-join_one.ensures.trie_live;
      right = c.in_ok-join_one.ensures.right;
      rest = ap (λ l. join l later) joined ∙ ap (join old) (sym step) ∙ c.loop-message.invariant.rest;
      batch = ap (λ l. c.join_one.new.batch.items ++ map record_of (new_in l later)) joined
          ∙ batch_on c.loop-message.batch.items c.join_one.new.batch.items old m later (c.args.batch.now.items ++ map record_of (new_in c.args.log.now.messages ms)) c.in_ok-join_one.ensures.batch
          (ap (λ l. c.loop-message.batch.items ++ map record_of (new_in old l)) (sym step) ∙ c.loop-message.invariant.batch);
      valid = (subst AreMessages step c.loop-message.invariant.valid).1;
      marks = c.in_ok-join_one.ensures.marked c.args.log.now.messages c.loop-message.invariant.marks;
    }

pub returns-clause-changed : goal.returns-clause-changed
returns-clause-changed c =
    listed_others c.args.log.now.messages c.loop-message.log.messages c.loop-message.marked c.in_ok-fields.fields.items c.in_ok-fields.ensures.all c.in_ok-fields.ensures.ordered c.loop-message.invariant.marks
