use Rattle.std.proofs.Common.{◌≡◌, ◌∙◌, None, Some, sym}
use Rattle.field_values.specs.Names.{field_of, names_fault}
use Rattle.device_core.proofs.Answering.{no_fault}
use Rattle.device_core.proofs.placing.field_of.Goals as goal

pub unreachable-requires : goal.unreachable-requires
unreachable-requires c =
    let none : names_fault (field_of c.args.dataset.now c.args.row.now c.args.column.now) ≡ None = no_fault (field_of c.args.dataset.now c.args.row.now c.args.column.now) c.requires in
    let some : names_fault (field_of c.args.dataset.now c.args.row.now c.args.column.now) ≡ Some c.in-Err.fault =
    (λ j. names_fault (field_of (sym c.as_str.ensures j) (sym c.as_str-2.ensures j) (sym c.as_str-3.ensures j))) ∙ c.in-Err.ensures.bad c.in_default.not-NoMemory in
    cc
