-- The book of messages: the rows that the values of their fields make.
use Rattle.std.specs.Prelude.{◌≡◌, List, [], ◌∷◌}
use Rattle.field_values.specs.Names.{FieldNames}
use Rattle.field_merge.specs.declared.message.Message.{Message}
use Rattle.field_merge.specs.Log.{IsRising, fields, join, value_in}
use Rattle.field_merge.specs.Joining.{HasOneEach, HaveSame}
use Rattle.book_rows.specs.declared.rows.Rows.{Rows}
use Rattle.book_rows.specs.Rows.{AreRowsOf, no_rows, with_field}
use Rattle.dirty_cells.specs.Changes.{Change, with_fields as with_changes}
use Rattle.device_core.specs.Changes.{AreChangesOf}

-- the rows with the field of each message set to the message's value, one after the other
abbrev pub with_fields : Rows → List Message → Rows
with_fields rows [] = rows
with_fields rows (m ∷ ms) = with_fields (with_field rows m.field m.value) ms

-- the rows that messages make: the latest message of each field gives it its value
abbrev pub rows_of : List Message → Rows
rows_of ms = with_fields no_rows (fields ms)

-- how the rows of messages follow them
pub record BooksFollowMessages : Type 0 where
  -- they are those that the values of the fields make
  pub latest : (ms : List Message) → AreRowsOf (value_in ms) (rows_of ms)
  -- and no others are
  pub no_other : (ms : List Message) (rows : Rows) → AreRowsOf (value_in ms) rows → rows ≡ rows_of ms
  -- where the fields have the same values, the rows are the same
  pub same_values : (ms ns : List Message) → ((f : FieldNames) → value_in ms f ≡ value_in ns f) → rows_of ms ≡ rows_of ns
  -- where equal timestamps mean equal messages, the order and the number in which messages join a message set do not matter
  pub any_order : (ms ns ps : List Message) → IsRising ms → HasOneEach ns → HaveSame ns ps → rows_of (join ms ns) ≡ rows_of (join ms ps)
  -- the fields whose latest messages changed make the rows of the messages after of those before
  pub changes : (old new : List Message) (changes : List Change) → AreChangesOf old new changes → with_changes (rows_of old) changes ≡ rows_of new
