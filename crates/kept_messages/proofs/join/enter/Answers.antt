use Rattle.std.proofs.Common.{◌∙◌, ◌++◌, ◌∷◌, [], List, sym, subst}
use Rattle.field_merge.specs.declared.message.Message.{Message}
use Rattle.field_merge.specs.Log.{join_one}
use Rattle.minute_trie.specs.Trie.{stamp_pair, IsTrieOf}
use Rattle.kept_messages.specs.Pairs.{pairs_of}
use Rattle.kept_messages.proofs.Tracking.{pair_joined, known_joined}
use Rattle.kept_messages.proofs.join.enter.Goals as goal

pub returns-in_ok-insert-clause-right : goal.returns-in_ok-insert-clause-right
returns-in_ok-insert-clause-right c =
    let ms = c.args.log.now.messages in
    let m : Message = c.args.message in
    subst (λ (l : List Message). IsTrieOf (pairs_of l) c.insert.new.self) (sym c.in_ok-entered.ensures.joined)
    (c.order_free.ensures.trie (pairs_of ms ++ stamp_pair m.stamp ∷ []) (pairs_of (join_one ms m)) c.insert.new.self
    (pair_joined ms m c.in_ok-entered.entered.fresh c.in_ok-entered.ensures.fresh c.if-entered.true)
    (c.in_ok-insert.ensures.inserted (pairs_of ms) c.requires.right))

pub returns-else-entered-clause-right : goal.returns-else-entered-clause-right
returns-else-entered-clause-right c =
    let ms = c.args.log.now.messages in
    let m : Message = c.args.message in
    subst (λ (l : List Message). IsTrieOf (pairs_of l) c.args.trie.now)
    (known_joined ms m c.in_ok-entered.entered.fresh c.in_ok-entered.ensures.fresh c.if-entered.false ∙ sym c.in_ok-entered.ensures.joined)
    c.requires.right
