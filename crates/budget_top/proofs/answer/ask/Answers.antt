use Rattle.budget_top.proofs.Obeying.{asked_text, asked_none}
use Rattle.budget_top.proofs.answer.ask.Goals as goal

pub returns-in-Ok-clause-read : goal.returns-in-Ok-clause-read
returns-in-Ok-clause-read c = asked_text c.args.line.now c.in-Some.bytes.now c.in-Ok.text c.read_command.result c.in-Some.ensures c.in-Ok.ensures.0 c.in-Ok.ensures.1 c.read_command.ensures.read

pub returns-in-Err-NotUtf8-clause-read : goal.returns-in-Err-NotUtf8-clause-read
returns-in-Err-NotUtf8-clause-read c = asked_none c.args.line.now c.in-Some.bytes.now c.in-Some.ensures (rw c.in-Err-NotUtf8.field-0-is at c.in-Err-NotUtf8.ensures).0
