use Rattle.std.proofs.Common.{◌≡◌, ◌++◌, false, drop, map}
use Rattle.field_merge.specs.Log.{join}
use Rattle.field_merge.specs.Messages.{AreMessages}
use Rattle.minute_trie.specs.Trie.{is_spent, IsTrieOf}
use Rattle.kept_messages.specs.Pairs.{pairs_of}
use Rattle.kept_messages.specs.Records.{record_of}
use Rattle.kept_messages.specs.News.{new_in}
use Rattle.device_core.specs.Changes.{Marks}
use Rattle.device_core.proofs.known.join_logged.Given as goal

abbrev pub invariant-loop-message : goal.invariant-loop-message
invariant-loop-message l = record {
  live : l.log.spent ≡ false;
  trie_live : is_spent l.trie ≡ false;
  right : IsTrieOf (pairs_of l.log.messages) l.trie;
  rest : join l.log.messages (drop l.message-index l.messages) ≡ join l.fn.log.messages l.messages;
  batch : l.batch.items ++ map record_of (new_in l.log.messages (drop l.message-index l.messages)) ≡ l.fn.batch.items ++ map record_of (new_in l.fn.log.messages l.messages);
  valid : AreMessages (drop l.message-index l.messages);
  marks : Marks l.fn.log.messages l.log.messages l.marked;
}
