use Rattle.field_merge.proofs.LineLemmas.{memory_of_parts, parts_plain}
use Rattle.field_merge.proofs.line.read_line.Goals as goal

pub returns-clause-memory : goal.returns-clause-memory
returns-clause-memory c =
    rw (← c.as_str.ensures) (memory_of_parts c.message_in.result c.as_str.result.now _ _ _ _ _ c.in_ok-cut.ensures.cut c.in_ok-cut.ensures.good c.message_in.ensures.memory)

pub message_in-requires : goal.message_in-requires
message_in-requires c = λ is. parts_plain c.as_str.result.now _ _ _ _ _ c.in_ok-cut.ensures.cut (c.in_ok-cut.ensures.plain is)
