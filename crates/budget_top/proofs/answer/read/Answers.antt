use Rattle.budget_top.proofs.Answered.{reads, brings_none}
use Rattle.budget_top.proofs.answer.read.Goals as goal

pub returns-clause-ok : goal.returns-clause-ok
returns-clause-ok g c = reads c.args.device.now.state c.cover_asked.new.device.state c.args.command.now c.read_reply.result c.requires.reads c.in_ok-cover_asked.ensures.state c.read_reply.ensures

pub returns-clause-brings : goal.returns-clause-brings
returns-clause-brings g c =
    brings_none c.args.device.now c.cover_asked.new.device c.read_reply.result c.requires.idle c.in_ok-cover_asked.ensures.batch c.in_ok-cover_asked.ensures.state
