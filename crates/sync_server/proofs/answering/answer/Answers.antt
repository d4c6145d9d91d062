use Rattle.sync_server.proofs.Answers.{answer_anew}
use Rattle.sync_server.proofs.answering.answer.Goals as goal

pub returns-clause-answer : goal.returns-clause-answer
returns-clause-answer c =
    answer_anew c.args.log.now.messages c.in_ok-known.known _ c.new-copy.result _ c.args.request.now c.join_request.result c.len-count.ensures.rising c.new-copy.ensures c.in_ok-known.ensures.messages c.as_slice.ensures c.in_ok-join_all.ensures.joined c.join_request.ensures.answer
