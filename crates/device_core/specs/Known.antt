-- Messages, and what is at hand of them.
use Rattle.std.specs.Prelude.{◌≡◌, false}
use Rattle.field_merge.specs.Messages.{AreMessages}
use Rattle.minute_trie.specs.Trie.{is_spent, IsTrieOf}
use Rattle.kept_messages.specs.Pairs.{pairs_of}
use Rattle.device_core.specs.declared.known.Known.{Known}
use Rattle.device_core.specs.Books.{rows_of}

-- valid messages, with the trie of their timestamps and the book of their values, none of which a want of memory has spoilt
pub record IsKnown (known : Known) : Type 0 where
  pub live : known.log.spent ≡ false
  pub valid : AreMessages known.log.messages
  pub trie_live : is_spent known.trie ≡ false
  pub trie_right : IsTrieOf (pairs_of known.log.messages) known.trie
  pub book_live : known.book.spent ≡ false
  pub book_right : known.book.rows ≡ rows_of known.log.messages
