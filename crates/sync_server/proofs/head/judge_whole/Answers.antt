use Rattle.std.proofs.Common.{◌∙◌, sym, drop, inl}
use Rattle.sync_server.proofs.Fronts.{few_fields}
use Rattle.sync_server.proofs.head.judge_whole.Goals as goal

pub returns-in-Ok : goal.returns-in-Ok
returns-in-Ok c =
    let h = c.requires.whole in
    (h.0, record { reads = h.1.reads; few = few_fields _ _ _ _ h.1.fields c.requires.room }, c.requires.within.section.len_fits, sym (c.judge_head.ensures h.0 h.1) ∙ c.in-Ok.is)

pub returns-in-Err : goal.returns-in-Err
returns-in-Err c =
    let h = c.requires.whole in
    inl (h.0, drop c.args.head.now.len c.args.bytes.now, record { reads = h.1.reads; few = few_fields _ _ _ _ h.1.fields c.requires.room }, sym (c.judge_head.ensures h.0 h.1) ∙ c.in-Err.is)
