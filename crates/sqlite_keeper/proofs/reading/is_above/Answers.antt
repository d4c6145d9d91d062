use Rattle.std.proofs.Common.{ap, sym, ◌∙◌}
use Rattle.std.specs.Ordering.{is_lt}
use Rattle.sqlite_keeper.specs.Contents.{text_cmp}
use Rattle.sqlite_keeper.proofs.Ordered.{last_key_is}
use Rattle.sqlite_keeper.proofs.reading.is_above.Goals as goal

pub returns-in-len1-up : goal.returns-in-len1-up
returns-in-len1-up c = c.lt-in-len1-up.ensures ∙ ap (λ k. is_lt (text_cmp k c.args.key.now)) (sym (last_key_is c.args.found.now c.last-item.result c.in-len1-up.len_at_least c.last-item.is))
