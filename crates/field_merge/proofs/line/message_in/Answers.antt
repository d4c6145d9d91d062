use Rattle.std.proofs.Common.{sym, ◌∙◌}
use Rattle.field_merge.proofs.LineLemmas.{each_fault, reads_well}
use Rattle.field_merge.proofs.line.message_in.Goals as goal

pub returns-in_err-field-clause-memory : goal.returns-in_err-field-clause-memory
returns-in_err-field-clause-memory c =
    each_fault c.from_residual-in_err-field.result _
    (λ fault is plain.
    reads_well c.args.parts.now.stamp.now c.args.parts.now.dataset.now c.args.parts.now.row.now c.args.parts.now.column.now c.args.parts.now.value.now c.in-Ok.stamp
    (sym c.in_ok-stamp.ensures.reading ∙ c.in-Ok.is)
    (c.in_err-field.ensures.memory plain.second plain.third plain.fourth))
