use Rattle.std.proofs.Common.{◌<◌, length, subst, List, ℕ, IsUtf8}
use Rattle.std.proofs.lemmas.Result.{err_from_is_err_and}
use Rattle.std.specs.List.{AllByRecursion}
use Rattle.field_merge.specs.declared.message.Message.{Message}
use Rattle.sync_wire.specs.Laws.{HasTexts}
use Rattle.sync_wire.proofs.Written.{request_messages, request_file, request_group, request_since}
use Rattle.sync_wire.proofs.request.request_bytes.Goals as goal

pub returns-in_err-put_messages-clause-memory : goal.returns-in_err-put_messages-clause-memory
returns-in_err-put_messages-clause-memory c =
    let p = err_from_is_err_and c.from_residual.result c.from_residual.ensures.1 in
    rw p.1 (request_messages c.args.request.now (subst (λ (ms : List _). 0 < length ms) c.as_slice.ensures c.in_err-put_messages.ensures.memory))

pub returns-in_err-put_text-clause-memory : goal.returns-in_err-put_text-clause-memory
returns-in_err-put_text-clause-memory c =
    let p = err_from_is_err_and c.from_residual-in_err-put_text.result c.from_residual-in_err-put_text.ensures.1 in
    rw p.1 (request_file c.args.request.now (subst (λ (t : List ℕ). 0 < length t) c.bytes.ensures.value c.in_err-put_text.ensures.memory))

pub returns-in_err-put_text-2-clause-memory : goal.returns-in_err-put_text-2-clause-memory
returns-in_err-put_text-2-clause-memory c =
    let p = err_from_is_err_and c.from_residual-in_err-put_text-2.result c.from_residual-in_err-put_text-2.ensures.1 in
    rw p.1 (request_group c.args.request.now (subst (λ (t : List ℕ). 0 < length t) c.bytes-2.ensures.value c.in_err-put_text-2.ensures.memory))

pub returns-in_err-put_text-3-clause-memory : goal.returns-in_err-put_text-3-clause-memory
returns-in_err-put_text-3-clause-memory c =
    let p = err_from_is_err_and c.from_residual-in_err-put_text-3.result c.from_residual-in_err-put_text-3.ensures.1 in
    rw p.1 (request_since c.args.request.now (subst (λ (t : List ℕ). 0 < length t) c.bytes-3.ensures.value c.in_err-put_text-3.ensures.memory))

pub returns-clause-texts : goal.returns-clause-texts
returns-clause-texts c = record {
  messages = subst (λ (ms : List Message). AllByRecursion HasTexts ms) c.as_slice.ensures c.in_ok-put_messages.ensures.texts;
  file = subst IsUtf8 c.bytes.ensures.value c.bytes.ensures.utf8;
  group = subst IsUtf8 c.bytes-2.ensures.value c.bytes-2.ensures.utf8;
  since = subst IsUtf8 c.bytes-3.ensures.value c.bytes-3.ensures.utf8;
}
