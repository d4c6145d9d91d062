use Rattle.std.proofs.Common.{ap}
use Rattle.std.specs.List.{flat_map}
use Rattle.field_merge.specs.Log.{ended_line}
use Rattle.budget_top.specs.Lines.{all_lines}
use Rattle.budget_top.specs.Verdicts.{messages_of}
use Rattle.std.proofs.lemmas.Result.{err_from_is_err_and}
use Rattle.budget_top.proofs.Ending.{breaks_fields, breaks_flush}
use Rattle.budget_top.proofs.merge.Merge.finish.Goals as goal

pub returns-in_err-write_lines-clause-err : goal.returns-in_err-write_lines-clause-err
returns-in_err-write_lines-clause-err g c =
    let p = err_from_is_err_and c.from_residual-in_err-write_lines.result c.from_residual-in_err-write_lines.ensures.1 in
    rw p.1 (λ entry read h.
    breaks_fields entry (g.W.Sink.taken c.end_last.new.sink) (g.W.Sink.taken c.write_lines.new.sink) read _ c.end_last.new.self
    (c.in_ok-end_last.ensures.ok entry read h) (ap (flat_map ended_line) (c.lines_by_field.ensures (messages_of (all_lines read)) (c.in_ok-tidy.ensures.came (messages_of (all_lines read)) (c.in_ok-end_last.ensures.ok entry read h).messages))) c.in_err-write_lines.ensures.front)

pub returns-in_err-flush-clause-err : goal.returns-in_err-flush-clause-err
returns-in_err-flush-clause-err g c =
    let p = err_from_is_err_and c.from_residual-in_err-flush.result c.from_residual-in_err-flush.ensures.1 in
    rw p.1 (λ entry read h.
    breaks_flush entry (g.W.Sink.taken c.end_last.new.sink) (g.W.Sink.taken c.write_lines.new.sink) (g.W.Sink.taken c.flush.new.self) read _ c.end_last.new.self
    (c.in_ok-end_last.ensures.ok entry read h) (ap (flat_map ended_line) (c.lines_by_field.ensures (messages_of (all_lines read)) (c.in_ok-tidy.ensures.came (messages_of (all_lines read)) (c.in_ok-end_last.ensures.ok entry read h).messages))) c.in_ok-write_lines.ensures.all c.in_err-flush.ensures.bytes)
