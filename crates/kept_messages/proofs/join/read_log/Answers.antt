use Rattle.std.proofs.Common.{◌≡◌, ◌∙◌, Some, ap, sym, subst, arith, rules}
use Rattle.field_merge.specs.Log.{LogState}
use Rattle.field_merge.specs.Messages.{AreMessages}
use Rattle.minute_trie.specs.Trie.{IsTrieOf}
use Rattle.kept_messages.specs.Records.{message_in, kept_set}
use Rattle.kept_messages.specs.Pairs.{pairs_of}
use Rattle.kept_messages.proofs.Starting.{kept_after, kept_is, kept_on, first_stamp}
use Rattle.kept_messages.proofs.join.read_log.Goals as goal

pub loop-index-init : goal.loop-index-init
loop-index-init c = record {
  rest = ap (λ (l : LogState). kept_after l.messages 0 c.args.records.now) c.new-log.ensures ∙ kept_is c.args.records.now;
  live = ap (λ (l : LogState). l.spent) c.new-log.ensures;
  trie_live = c.new-trie.ensures.live;
  right = subst (λ (l : LogState). IsTrieOf (pairs_of l.messages) c.new-trie.result) (sym c.new-log.ensures) c.new-trie.ensures.empty;
  valid = subst (λ (l : LogState). AreMessages l.messages) (sym c.new-log.ensures) tt;
  first = λ some. absurd (omega (arith, some));
}

pub loop-index-preserved : goal.loop-index-preserved
loop-index-preserved c =
    let rs = c.args.records.now in
    let i = c.loop-index.index in
    let r = c.index-records-index.result in
    let m = c.in-Some.message in
    let old = c.loop-index.log.messages in
    let read : Some m ≡ message_in r = search rules in record {
      rest = kept_on old c.enter.new.log.messages i rs r m (kept_set rs) c.loop-index-test.true c.index-records-index.is read c.in_ok-enter.ensures.joined c.loop-index.invariant.rest;
      live = search rules;
      trie_live = search rules;
      right = search rules;
      valid = search rules;
      first = λ some. first_stamp rs i r m c.loop-index-test.true c.index-records-index.is read c.loop-index.invariant.first;
    }
