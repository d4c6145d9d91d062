use Rattle.device_core.proofs.Changes.{marks_one}
use Rattle.device_core.proofs.known.join_one.Goals as goal

pub returns-clause-marked : goal.returns-clause-marked
returns-clause-marked c = λ before h.
    let entered = c.in_ok-entered in
    marks_one before c.args.log.now.messages c.join_message.new.log.messages c.args.marked.now c.mark_if.new.marked c.args.message.now entered.entered.latest entered.ensures.joined entered.ensures.latest entered.ensures.changed c.in_ok-mark_if.ensures h
