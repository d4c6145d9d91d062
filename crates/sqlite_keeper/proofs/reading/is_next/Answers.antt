use Rattle.std.proofs.Common.{◌∙◌}
use Rattle.sqlite_keeper.proofs.Ordered.{next_is}
use Rattle.sqlite_keeper.proofs.reading.is_next.Goals as goal

pub returns-in-len1-up : goal.returns-in-len1-up
returns-in-len1-up c = c.lt.ensures ∙ next_is c.args.found.now c.last-item.result c.args.name.now c.in-len1-up.len_at_least c.last-item.is
