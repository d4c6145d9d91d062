use Rattle.std.proofs.Common.{◌<◌, length, subst, List, ℕ, IsUtf8}
use Rattle.std.proofs.lemmas.Result.{err_from_is_err_and}
use Rattle.std.specs.List.{AllByRecursion}
use Rattle.field_merge.specs.declared.message.Message.{Message}
use Rattle.sync_wire.specs.Laws.{HasTexts}
use Rattle.sync_wire.proofs.Written.{response_messages, response_merkle}
use Rattle.sync_wire.proofs.response.response_bytes.Goals as goal

pub returns-in_err-put_messages-clause-memory : goal.returns-in_err-put_messages-clause-memory
returns-in_err-put_messages-clause-memory c =
    let p = err_from_is_err_and c.from_residual.result c.from_residual.ensures.1 in
    rw p.1 (response_messages c.args.response.now (subst (λ (ms : List _). 0 < length ms) c.as_slice.ensures c.in_err-put_messages.ensures.memory))

pub returns-in_err-put_text-clause-memory : goal.returns-in_err-put_text-clause-memory
returns-in_err-put_text-clause-memory c =
    let p = err_from_is_err_and c.from_residual-in_err-put_text.result c.from_residual-in_err-put_text.ensures.1 in
    rw p.1 (response_merkle c.args.response.now (subst (λ (t : List ℕ). 0 < length t) c.bytes.ensures.value c.in_err-put_text.ensures.memory))

pub returns-clause-texts : goal.returns-clause-texts
returns-clause-texts c = record {
  messages = subst (λ (ms : List Message). AllByRecursion HasTexts ms) c.as_slice.ensures c.in_ok-put_messages.ensures.texts;
  merkle = subst IsUtf8 c.bytes.ensures.value c.bytes.ensures.utf8;
}
