use Rattle.std.proofs.Common.{true≢false, sym, ◌∙◌}
use Rattle.sqlite_keeper.proofs.GetLemmas.{unreadable}
use Rattle.sqlite_keeper.proofs.adopting.version_in.Goals as goal

pub returns-else-is_memory-clause-version : goal.returns-else-is_memory-clause-version
returns-else-is_memory-clause-version c k shows =
    unreadable k c.args.rows.now c.row-item.result c.new-in-Err-2.result c.in-len1-up.len_at_least c.row-item.is (c.new-in-Err-2.ensures ∙ c.new-in-Err.ensures.bytes)
    (λ low readable. c.in-Err.ensures.kind (λ memory. true≢false (sym (c.if-is_memory.ensures.1 memory))) low readable) shows
