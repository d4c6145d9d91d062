-- The rows after an edit.
use Rattle.std.specs.Prelude.{ℕ, ◌==◌, Bool, false, List, [], ◌∷◌}
use Rattle.std.specs.List.{list_any}
use Rattle.field_values.specs.declared.value.Value.{Value}
use Rattle.field_values.specs.declared.value.Value.TheVariants.{Text as IsText}
use Rattle.field_values.specs.Names.{field_of}
use Rattle.finite_sums.specs.Maps.{Text}
use Rattle.book_rows.specs.declared.rows.Rows.{Rows}
use Rattle.book_rows.specs.declared.write.RowName.{RowName}
use Rattle.book_rows.specs.declared.write.RowName.TheVariants.{Given, Made}
use Rattle.book_rows.specs.declared.write.WriteValue.{WriteValue}
use Rattle.book_rows.specs.declared.write.WriteValue.TheVariants.{Plain, IdOf}
use Rattle.book_rows.specs.declared.write.Write.{Write}
use Rattle.book_rows.specs.Rows.{with_field}

-- the ids of the rows that an edit makes, each by the place of the write under whose timestamp it is made
abbrev pub Ids : Type 0
Ids = ℕ → Text

abbrev pub row_of : Ids → RowName → Text
row_of ids (Given id) = id
row_of ids (Made at) = ids at

abbrev pub value_in : Ids → WriteValue → Value
value_in ids (Plain value) = value
value_in ids (IdOf at) = IsText (ids at)

-- the rows after a write
abbrev pub with_write : Ids → Rows → Write → Rows
with_write ids rows w = with_field rows (field_of w.dataset (row_of ids w.row) w.column) (value_in ids w.value)

-- the rows after all writes, one after the other
abbrev pub with_writes : Ids → Rows → List Write → Rows
with_writes ids rows [] = rows
with_writes ids rows (w ∷ ws) = with_writes ids (with_write ids rows w) ws

-- the row is the one that is made by the write at this place
abbrev pub is_made : ℕ → RowName → Bool
is_made at (Given id) = false
is_made at (Made place) = place == at

-- the writes make a row by the one at this place
abbrev pub makes : List Write → ℕ → Bool
makes ws at = list_any (λ w. is_made at w.row) ws
