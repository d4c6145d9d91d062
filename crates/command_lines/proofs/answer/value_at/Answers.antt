use Rattle.std.proofs.Common.{◌∙◌, sym}
use Rattle.field_values.specs.Names.{field_of, names_fault}
use Rattle.command_lines.proofs.ReadingLemmas.{value_in-none}
use Rattle.command_lines.proofs.answer.value_at.Goals as goal

pub returns-in_ok-memory_aside-in-Err : goal.returns-in_ok-memory_aside-in-Err
returns-in_ok-memory_aside-in-Err c =
    sym (value_in-none c.args.log.now.messages (field_of c.args.dataset.now c.args.row.now c.args.column.now)
    c.in-Err.fault c.requires.valid
    ((λ j. names_fault (field_of (sym c.as_str.ensures j) (sym c.as_str-2.ensures j) (sym c.as_str-3.ensures j))) ∙ c.in-Err.ensures.bad c.in_ok-memory_aside-in-Err.ensures))
