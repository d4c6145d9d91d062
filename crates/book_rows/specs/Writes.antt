-- Which writes may be made.
use Rattle.std.specs.Prelude.{ℕ, ◌<◌, List, length}
use Rattle.std.specs.List.{AllByRecursion}
use Rattle.field_values.specs.Names.{IsName}
use Rattle.field_values.specs.Value.{IsValue}
use Rattle.book_rows.specs.declared.write.RowName.{RowName}
use Rattle.book_rows.specs.declared.write.RowName.TheVariants.{Given, Made}
use Rattle.book_rows.specs.declared.write.WriteValue.{WriteValue}
use Rattle.book_rows.specs.declared.write.WriteValue.TheVariants.{Plain, IdOf}
use Rattle.book_rows.specs.declared.write.Write.{Write}

-- the row of a write among n writes: a name, or a new row whose id is the timestamp of one of them
abbrev pub IsRowName : ℕ → RowName → Type 0
IsRowName n (Given id) = IsName id
IsRowName n (Made at) = at < n

-- the value of a write among n writes: a valid one, or the id of such a new row
abbrev pub IsWriteValue : ℕ → WriteValue → Type 0
IsWriteValue n (Plain value) = IsValue value
IsWriteValue n (IdOf at) = at < n

-- a write among n writes
pub record IsWrite (n : ℕ) (w : Write) : Type 0 where
  pub dataset : IsName w.dataset
  pub row : IsRowName n w.row
  pub column : IsName w.column
  pub value : IsWriteValue n w.value

-- the names and the values of all writes are valid, and each place that one of them tells is that of a write
abbrev pub AreWrites : List Write → Type 0
AreWrites ws = AllByRecursion (IsWrite (length ws)) ws
