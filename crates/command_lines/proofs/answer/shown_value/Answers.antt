use Rattle.std.proofs.Common.{◌≡◌, subst}
use Rattle.std.specs.Option.{option_copied}
use Rattle.field_values.specs.Names.{field_of}
use Rattle.field_merge.specs.Log.{value_in}
use Rattle.command_lines.proofs.ReadingLemmas.{value_in-valid}
use Rattle.command_lines.proofs.answer.shown_value.Goals as goal

pub escaped_text-requires : goal.escaped_text-requires
escaped_text-requires c =
    let ms = c.args.log.now.messages in
    let field = field_of c.args.dataset.now c.args.row.now c.args.column.now in
    value_in-valid ms field c.in-Ok-Some.value.now c.requires.valid
    (subst (λ o. option_copied o ≡ value_in ms field) c.in-Ok-Some.field-0-is c.in-Ok-Some.ensures)
