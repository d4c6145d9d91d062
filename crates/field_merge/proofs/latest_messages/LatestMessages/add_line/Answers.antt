use Rattle.std.proofs.Common.{◌≡◌, Result, IfErr, OnOk, Ok, subst, sym}
use Rattle.field_merge.specs.declared.message.Message.{Message}
use Rattle.field_merge.specs.declared.line.LineFault.{LineFault}
use Rattle.field_merge.specs.Latest.{AddsRead}
use Rattle.field_merge.specs.Lines.{message_of_texts, reading, IsLineFault}
use Rattle.field_merge.proofs.LineLemmas.{line_as_texts, memory_of_parts, memory_of_texts, parts_plain}
use Rattle.field_merge.proofs.latest_messages.LatestMessages.add_line.Goals as goal

pub returns-in-Some-clause-ok : goal.returns-in-Some-clause-ok
returns-in-Some-clause-ok c =
    rw (line_as_texts c.args.line.now _ _ _ _ _ c.in-Some.names c.in_ok-cut.ensures.cut c.in_ok-cut.ensures.good (c.in_ok-cut.ensures.plain c.if-cut.true) c.in-Some.ensures) c.add_parts.ensures.ok

pub returns-in-Some-clause-err : goal.returns-in-Some-clause-err
returns-in-Some-clause-err c =
    rw (line_as_texts c.args.line.now _ _ _ _ _ c.in-Some.names c.in_ok-cut.ensures.cut c.in_ok-cut.ensures.good (c.in_ok-cut.ensures.plain c.if-cut.true) c.in-Some.ensures) c.add_parts.ensures.err

pub returns-in-Some-clause-memory : goal.returns-in-Some-clause-memory
returns-in-Some-clause-memory c =
    memory_of_texts c.add_parts.result c.args.line.now _ _ _ _ _ c.in-Some.names c.in_ok-cut.ensures.cut c.in_ok-cut.ensures.good
    (line_as_texts c.args.line.now _ _ _ _ _ c.in-Some.names c.in_ok-cut.ensures.cut c.in_ok-cut.ensures.good (c.in_ok-cut.ensures.plain c.if-cut.true) c.in-Some.ensures)
    c.add_parts.ensures.memory

pub add_read-requires-clause-plain : goal.add_read-requires-clause-plain
add_read-requires-clause-plain c = λ is. parts_plain c.args.line.now _ _ _ _ _ c.in_ok-cut.ensures.cut (c.in_ok-cut.ensures.plain is)

pub returns-clause-memory : goal.returns-clause-memory
returns-clause-memory c = memory_of_parts c.add_read.result c.args.line.now _ _ _ _ _ c.in_ok-cut.ensures.cut c.in_ok-cut.ensures.good c.add_read.ensures.memory
