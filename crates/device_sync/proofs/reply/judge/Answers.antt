use Rattle.std.proofs.Common.{refl, arith}
use Rattle.device_sync.specs.Replies.{refuses}
use Rattle.device_sync.proofs.reply.judge.Goals as goal

pub returns-then-head-ne200-clause-judged : goal.returns-then-head-ne200-clause-judged
returns-then-head-ne200-clause-judged c =
    refuses (omega arith) c.in-Some.head.status _ c.in-Some.ensures.reply c.if-head-ne200.true refl
