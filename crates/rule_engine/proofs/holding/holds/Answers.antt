use Rattle.std.proofs.Common.{◌∙◌}
use Rattle.rule_engine.proofs.Resolved.{account_holds}
use Rattle.rule_engine.proofs.holding.holds.Goals as goal

pub returns-in-Acct : goal.returns-in-Acct
returns-in-Acct c = c.id_holds.ensures ∙ account_holds c.args.book.now.rows c.args.row.now c.args.condition.now _ c.in-Acct.is c.as_ref.ensures.value
