-- The writes of edits.
use Rattle.std.specs.Prelude.{pos, Bool, [], ◌∷◌, Option, None, Some, if◌then◌else◌}
use Rattle.field_values.specs.declared.value.Value.{Value}
use Rattle.field_values.specs.declared.value.Value.TheVariants.{Null, Number, Text as IsText}
use Rattle.finite_sums.specs.Maps.{Text}
use Rattle.book_rows.specs.declared.write.RowName.{RowName}
use Rattle.book_rows.specs.declared.write.RowName.TheVariants.{Given, Made}
use Rattle.book_rows.specs.declared.write.WriteValue.{WriteValue}
use Rattle.book_rows.specs.declared.write.WriteValue.TheVariants.{Plain, IdOf}
use Rattle.book_rows.specs.declared.write.Write.{Write}

-- the write of a value
abbrev pub write : Text → RowName → Text → Value → Write
write dataset row column value = record { dataset = dataset; row = row; column = column; value = Plain value }

-- a flag as a number
abbrev pub flag : Bool → Value
flag b = Number (if b then pos 1 else pos 0)

-- a text, or null where there is none
abbrev pub text_or_null : Option Text → Value
text_or_null None = Null
text_or_null (Some t) = IsText t

-- notes, or null where they are empty
abbrev pub notes_value : Text → Value
notes_value [] = Null
notes_value (byte ∷ bytes) = IsText (byte ∷ bytes)

-- the id of a row, as a value
abbrev pub id_value : RowName → WriteValue
id_value (Given id) = Plain (IsText id)
id_value (Made at) = IdOf at
