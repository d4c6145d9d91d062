use Rattle.std.proofs.Common.{refl}
use Rattle.device_sync.proofs.Judging.{answered_with, bad_of}
use Rattle.device_sync.proofs.reply.judge_body.Goals as goal

pub returns-in-Ok-clause-judged : goal.returns-in-Ok-clause-judged
returns-in-Ok-clause-judged c = answered_with c.args.bytes.now c.args.body.now c.in-Ok.answer c.meaning.result c.requires.short c.requires.reply c.in-Ok.ensures.found c.meaning.ensures.value

pub returns-in-Err-clause-judged : goal.returns-in-Err-clause-judged
returns-in-Err-clause-judged c = bad_of c.args.bytes.now c.args.body.now c.in-Err.fault _ c.bad_body.result c.requires.short c.requires.reply c.in-Err.ensures.fault refl c.bad_body.ensures.place
