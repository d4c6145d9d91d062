use Rattle.std.proofs.Common.{◌≡◌, ◌≢◌, ◌≤◌, ◌<◌, ◌∙◌, List, [], ◌∷◌, length, refl, Some, ap, sym, subst, arith, rules}
use Rattle.field_merge.specs.Log.{LogState}
use Rattle.field_merge.specs.Messages.{AreMessages}
use Rattle.budget_ports.specs.declared.keeper.Record.{Record}
use Rattle.minute_trie.specs.Trie.{IsTrieOf}
use Rattle.kept_messages.specs.Records.{message_in, kept_set}
use Rattle.kept_messages.specs.Pairs.{pairs_of}
use Rattle.kept_messages.proofs.Starting.{kept_after, kept_is, kept_on, first_stamp}
use Rattle.book_rows.specs.Book.{BookState}
use Rattle.device_core.specs.Books.{rows_of}
use Rattle.device_core.proofs.known.read_all.Goals as goal

pub loop-index-init : goal.loop-index-init
loop-index-init c = record {
  rest = ap (λ (l : LogState). kept_after l.messages 0 c.args.records.now) c.new.ensures ∙ kept_is c.args.records.now;
  known = record {
    live = ap (λ (l : LogState). l.spent) c.new.ensures;
    valid = subst (λ (l : LogState). AreMessages l.messages) (sym c.new.ensures) tt;
    trie_live = c.new-2.ensures.live;
    trie_right = subst (λ (l : LogState). IsTrieOf (pairs_of l.messages) c.new-2.result) (sym c.new.ensures) c.new-2.ensures.empty;
    book_live = ap (λ (b : BookState). b.spent) c.new-3.ensures;
    book_right = ap (λ (b : BookState). b.rows) c.new-3.ensures ∙ sym (ap (λ (l : LogState). rows_of l.messages) c.new.ensures);
  };
  first = λ some. absurd (omega (arith, some));
}

pub loop-index-preserved : goal.loop-index-preserved
loop-index-preserved c =
    let rs = c.args.records.now in
    let i = c.loop-index.index in
    let r = c.index-records-index.result in
    let m = c.in-Some.message in
    let old = c.loop-index.known.log.messages in
    let read : Some m ≡ message_in r = search rules in record {
      rest = kept_on old c.take_in.new.known.log.messages i rs r m (kept_set rs) c.loop-index-test.true c.index-records-index.is read c.in_ok-take_in.ensures.joined c.loop-index.invariant.rest;
      known = c.in_ok-take_in.ensures.known;
      first = λ some. first_stamp rs i r m c.loop-index-test.true c.index-records-index.is read c.loop-index.invariant.first;
    }

pub returns-clause-first : goal.returns-clause-first
returns-clause-first c = λ some. c.loop-index.invariant.first (past c.args.records.now some (omega arith))
  where
    past : (rs : List Record) → rs ≢ [] → length rs ≤ c.loop-index.index → 0 < c.loop-index.index
    past [] some end = absurd (some refl)
    past (r ∷ rs) some end = omega (arith, end)
