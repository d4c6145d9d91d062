-- What the undo of a handing on leaves, and that of a merge.
use Rattle.std.specs.Prelude.{◌≡◌, List, map as list_map, Ok}
use Rattle.field_values.specs.declared.value.Value.{Value}
use Rattle.field_values.specs.Names.{FieldNames, field_of}
use Rattle.finite_sums.specs.Maps.{Text}
use Rattle.book_rows.specs.declared.rows.Rows.{Rows}
use Rattle.book_rows.specs.declared.write.Write.{Write}
use Rattle.book_rows.specs.Rows.{Values, AreRowsOf}
use Rattle.book_edits.specs.Mappings.{category_delete_to, payee_merge}
use Rattle.edit_history.specs.Undo.{entry_over, undo_writes}
use Rattle.split_transfer.specs.After.{Ids, row_of, value_in, with_writes}
use Rattle.book_laws.specs.Undone.{AreAsBefore}

-- the fields into which writes write, and what each gets
abbrev pub into_fields : Ids → List Write → List (FieldNames × Value)
into_fields ids ws = list_map (λ w. (field_of w.dataset (row_of ids w.row) w.column, value_in ids w.value)) ws

-- the rows after an edit of a book, whose fields had these values, and after the undo of it
abbrev pub rows_undone : Ids → Values → Rows → List Write → Rows
rows_undone ids values rows ws = with_writes ids (with_writes ids rows ws) (undo_writes (entry_over values (list_map (λ w. w.0) (into_fields ids ws))))

-- no trace is left of either, so every sheet is what it was, and every transaction of the category and the payee that it was of
pub record MappingsAreTakenBack : Type 0 where
  pub category : (ids : Ids) (values : Values) (rows : Rows) (id to : Text) (ws : List Write) → AreRowsOf values rows → category_delete_to rows id to ≡ Ok ws → AreAsBefore rows (rows_undone ids values rows ws)
  pub payees : (ids : Ids) (values : Values) (rows : Rows) (to : Text) (these : List Text) (ws : List Write) → AreRowsOf values rows → payee_merge rows to these ≡ Ok ws → AreAsBefore rows (rows_undone ids values rows ws)
