use Rattle.std.proofs.Common.{◌≡◌, ◌∙◌, None, Some, sym}
use Rattle.field_values.specs.Names.{field_of, names_fault}
use Rattle.field_values.proofs.NameLemmas.{names_fault-none}
use Rattle.generated_books.proofs.contents.field_of.Goals as goal

pub unreachable-requires : goal.unreachable-requires
unreachable-requires c =
    let names = field_of c.args.dataset.now c.args.row.now c.args.column.now in
    let none : names_fault names ≡ None = names_fault-none names c.requires in
    let some : names_fault names ≡ Some c.in-Err.fault = c.in-Err.ensures.bad c.in_default.not-NoMemory in
    cc
