use Rattle.std.proofs.lemmas.Result.{err_from_is_err_and}
use Rattle.sync_wire.specs.Envelope.{texts_seen}
use Rattle.sync_wire.proofs.Totals.{content_fault_told, message_found, message_fault_told, message_lacked}
use Rattle.sync_wire.proofs.message.read_message.Goals as goal

pub returns-in_err-texts-clause-fault : goal.returns-in_err-texts-clause-fault
returns-in_err-texts-clause-fault c =
    let p = err_from_is_err_and c.from_residual.result c.from_residual.ensures.1 in
    rw (p.1, p.2) (content_fault_told c.args.stamp.now c.args.bytes.now c.in_err-texts.field-0.0 c.in_err-texts.ensures.value)

pub returns-clause-found : goal.returns-clause-found
returns-clause-found c = message_found c.args.stamp.now c.args.bytes.now (texts_seen c.in_ok-texts.texts) c.message_from.result c.in_ok-texts.ensures.value c.message_from.ensures.value

pub returns-clause-fault : goal.returns-clause-fault
returns-clause-fault c = message_fault_told c.args.stamp.now c.args.bytes.now (texts_seen c.in_ok-texts.texts) c.message_from.result c.in_ok-texts.ensures.value c.message_from.ensures.value

pub returns-clause-memory : goal.returns-clause-memory
returns-clause-memory c = message_lacked c.args.stamp.now c.args.bytes.now (texts_seen c.in_ok-texts.texts) c.message_from.result c.in_ok-texts.ensures.value c.message_from.ensures.memory
