-- The writes into transactions.
use Rattle.std.specs.Prelude.{ℕ, pos, List, map, Option, None, Some, codes}
use Rattle.field_values.specs.declared.value.Value.{Value}
use Rattle.field_values.specs.declared.value.Value.TheVariants.{Null, Number}
use Rattle.finite_sums.specs.Maps.{Text}
use Rattle.book_rows.specs.declared.write.RowName.{RowName}
use Rattle.book_rows.specs.declared.write.RowName.TheVariants.{Given}
use Rattle.book_rows.specs.declared.write.Write.{Write}
use Rattle.book_edits.specs.Writing.{write}

-- the write of a value into a column of a transaction
abbrev pub tx_write : RowName → Text → Value → Write
tx_write row column value = write (codes "transactions") row column value

-- one value into one column of each of these transactions
abbrev pub on_each : Text → Value → List Text → List Write
on_each column value ids = map (λ id. tx_write (Given id) column value) ids

-- a day, or null where there is none
abbrev pub day_or_null : Option ℕ → Value
day_or_null None = Null
day_or_null (Some day) = Number (pos day)
