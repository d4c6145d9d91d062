use Rattle.budget_top.proofs.Playing.{answers_text, refuses_text}
use Rattle.budget_top.proofs.play.reply_to.Goals as goal

pub returns-in-Ok-clause-ok : goal.returns-in-Ok-clause-ok
returns-in-Ok-clause-ok g c = answers_text c.args.session.now.world _ c.args.line.now c.in-Some.bytes.now c.in-Ok.text c.answer.result c.in-Some.ensures c.in-Ok.ensures.0 c.in-Ok.ensures.1 c.answer.ensures.ok

pub returns-in-Err-NotUtf8-clause-ok : goal.returns-in-Err-NotUtf8-clause-ok
returns-in-Err-NotUtf8-clause-ok g c =
    refuses_text c.args.session.now.world c.args.line.now c.in-Some.bytes.now c.faulty_reply-in-Err-NotUtf8.result c.in-Some.ensures (rw c.in-Err-NotUtf8.field-0-is at c.in-Err-NotUtf8.ensures).0
    c.faulty_reply-in-Err-NotUtf8.ensures
