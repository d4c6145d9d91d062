-- The ids of rows that valid messages make are names.
use Rattle.std.proofs.Common.{List, [], ◌∷◌}
use Rattle.field_merge.specs.declared.message.Message.{Message}
use Rattle.field_merge.specs.Log.{fields}
use Rattle.field_merge.specs.Messages.{IsMessage, AreMessages}
use Rattle.field_merge.proofs.Fields.{lists_latest}
use Rattle.field_merge.proofs.Latest.{latest_there}
use Rattle.field_merge.proofs.Members.{all_from, all_of}
use Rattle.book_rows.specs.declared.rows.Rows.{Rows}
use Rattle.book_rows.specs.Named.{HasNames}
use Rattle.book_rows.specs.Rows.{no_rows, with_field}
use Rattle.book_rows.proofs.RowNames.{field_named, no_rows_named}
use Rattle.device_core.specs.Books.{with_fields, rows_of}

fields_named : (rows : Rows) (ms : List Message) → AreMessages ms → HasNames rows → HasNames (with_fields rows ms)
fields_named rows [] valid h = h
fields_named rows (m ∷ ms) valid h = fields_named (with_field rows m.field m.value) ms valid.1 (field_named rows m.field m.value valid.0.field.row h)

fields_valid : (ms : List Message) → AreMessages ms → AreMessages (fields ms)
fields_valid ms valid = all_from IsMessage (fields ms) (λ m c. all_of IsMessage ms valid m (latest_there ms m.field m (((lists_latest ms).exactly m).0 c)).0)

pub rows_named : (ms : List Message) → AreMessages ms → HasNames (rows_of ms)
rows_named ms valid = fields_named no_rows (fields ms) (fields_valid ms valid) no_rows_named
