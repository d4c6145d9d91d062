use Rattle.std.proofs.Common.{◌∙◌}
use Rattle.sync_server.proofs.Texts.{text_is}
use Rattle.sync_server.proofs.refusal.Refusal.reply.Goals as goal

pub returns : goal.returns
returns c = c.text.ensures ∙ text_is c.args.self
