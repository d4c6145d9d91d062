-- A TAB behind the fifth part makes a sixth.
use Rattle.field_merge.proofs.LineLemmas.{too_many}
use Rattle.field_merge.proofs.line.five_parts.Goals as goal

pub returns-in-Some : goal.returns-in-Some
returns-in-Some c =
    too_many c.args.line.now
    c.in_ok-stamp.stamp.now c.in_ok-stamp.rest.now
    c.in_ok-dataset.dataset.now c.in_ok-dataset.rest.now
    c.in_ok-row.row.now c.in_ok-row.rest.now
    c.in_ok-column.column.now c.in_ok-column.value.now
    c.in-Some.field-0.0.now c.in-Some.field-0.1.now
    c.in_ok-stamp.ensures c.in_ok-dataset.ensures c.in_ok-row.ensures c.in_ok-column.ensures c.in-Some.ensures
