-- What the server answers to a request.
use Rattle.std.specs.Prelude.{List, false}
use Rattle.field_merge.specs.declared.message.Message.{Message}
use Rattle.field_merge.specs.Log.{join, messages_after}
use Rattle.minute_trie.specs.Trie.{trie_of}
use Rattle.minute_trie.specs.Json.{trie_text}
use Rattle.kept_messages.specs.Pairs.{pairs_of}
use Rattle.sync_wire.specs.declared.request.SyncRequest.{SyncRequest}
use Rattle.sync_wire.specs.declared.response.SyncResponse.{SyncResponse}

-- the messages that the group had before and that are later than the request asks for, and the trie of all that it has then
abbrev pub answer_of : List Message → SyncRequest → SyncResponse
answer_of ms q = record {
  messages = messages_after q.since ms;
  encrypted = false;
  merkle = trie_text (trie_of (pairs_of (join ms q.messages)));
}
