use Rattle.budget_top.proofs.Answered.{at_reading}
use Rattle.budget_top.proofs.answer.obey.Goals as goal

pub returns-in_default : goal.returns-in_default
returns-in_default g c = record {
  ok = at_reading c.args.device.now.state c.read.new.device.state c.args.command.now c.args.reading c.read.result c.read.ensures.ok;
  live = c.read.ensures.live;
  brings = c.read.ensures.brings;
}
