use Rattle.sync_server.proofs.Answers.{answer_made}
use Rattle.sync_server.proofs.answering.join_request.Goals as goal

pub returns-clause-answer : goal.returns-clause-answer
returns-clause-answer c =
    answer_made c.args.log.now.messages _ _ _ _ _ c.args.request.now _ c.bytes.ensures.value c.in_ok-messages.ensures.messages c.as_slice.ensures c.in_ok-join_all.ensures.joined c.in_ok-join_all.ensures.right c.in_ok-merkle.ensures
