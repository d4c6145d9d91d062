use Rattle.sync_wire.specs.Canon.{message_field}
use Rattle.sync_wire.specs.Laws.{HasTexts}
use Rattle.sync_wire.proofs.Written.{all_more, written_more}
use Rattle.sync_wire.proofs.writing.put_messages.Goals as goal

pub loop-message-preserved : goal.loop-message-preserved
loop-message-preserved c = record {
  written = written_more message_field c.args.messages.now c.loop-message.message-index c.message-item.result _ _ _ c.loop-message-test.true c.message-item.is c.loop-message.invariant.written c.in_ok-put_message.ensures.bytes;
  texts = all_more HasTexts c.args.messages.now c.loop-message.message-index c.message-item.result c.loop-message-test.true c.message-item.is c.loop-message.invariant.texts c.in_ok-put_message.ensures.texts;
}
