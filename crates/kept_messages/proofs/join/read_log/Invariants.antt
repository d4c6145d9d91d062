use Rattle.std.proofs.Common.{◌≡◌, ◌<◌, drop, false}
use Rattle.field_merge.specs.Messages.{AreMessages}
use Rattle.minute_trie.specs.Trie.{is_spent, IsTrieOf}
use Rattle.kept_messages.specs.Records.{kept_set, HasFirstStamp}
use Rattle.kept_messages.specs.Pairs.{pairs_of}
use Rattle.kept_messages.proofs.Starting.{kept_after}
use Rattle.kept_messages.proofs.join.read_log.Given as goal

abbrev pub invariant-loop-index : goal.invariant-loop-index
invariant-loop-index l = record {
  rest : kept_after l.log.messages l.index (drop l.index l.records) ≡ kept_set l.records;
  live : l.log.spent ≡ false;
  trie_live : is_spent l.trie ≡ false;
  right : IsTrieOf (pairs_of l.log.messages) l.trie;
  valid : AreMessages l.log.messages;
  first : 0 < l.index → HasFirstStamp l.records;
}
