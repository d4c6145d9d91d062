-- A reply that was judged in a program.
use Rattle.std.specs.Prelude.{List}
use Rattle.field_merge.specs.declared.message.Message.{Message}
use Rattle.minute_trie.specs.Trie.{held}
use Rattle.device_sync.specs.declared.reply.Judged.{Judged}
use Rattle.device_sync.specs.declared.reply.Judged.TheVariants.{Answer, Refusal, Bad}
use Rattle.device_sync.specs.Replies.{Got, answer, refusal, bad, messages_of}

-- what it was judged as
abbrev pub got_of : Judged → Got
got_of (Answer messages trie) = answer messages (held trie)
got_of (Refusal status) = refusal status
got_of (Bad at) = bad at

-- the messages that it has
abbrev pub messages_in : Judged → List Message
messages_in judged = messages_of (got_of judged)
