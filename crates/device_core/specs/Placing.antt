-- The messages of writes, under timestamps in a row, and the ids of the rows that they make.
use Rattle.std.specs.Prelude.{ℕ, ◌+◌, ◌==◌, List, [], ◌∷◌, Bool, false, if◌then◌else◌}
use Rattle.field_values.specs.declared.value.Value.{Value}
use Rattle.field_values.specs.declared.value.Value.TheVariants.{Text}
use Rattle.field_values.specs.Names.{field_of}
use Rattle.hybrid_clock.specs.declared.stamp.Stamp.{Stamp}
use Rattle.hybrid_clock.specs.Stamp.{stamp_text}
use Rattle.field_merge.specs.declared.message.Message.{Message}
use Rattle.book_rows.specs.declared.write.RowName.{RowName}
use Rattle.book_rows.specs.declared.write.RowName.TheVariants.{Given, Made}
use Rattle.book_rows.specs.declared.write.WriteValue.{WriteValue}
use Rattle.book_rows.specs.declared.write.WriteValue.TheVariants.{Plain, IdOf}
use Rattle.book_rows.specs.declared.write.Write.{Write}

-- the timestamp of the write at a place, where the first write has this one
abbrev pub stamp_at : Stamp → ℕ → Stamp
stamp_at first n = record first { counter = first.counter + n }

-- the id of the row that the write at a place makes: the text of its timestamp
abbrev pub id_at : Stamp → ℕ → List ℕ
id_at first n = stamp_text (stamp_at first n)

-- the id of the row of a write
abbrev pub row_of : Stamp → RowName → List ℕ
row_of first (Given id) = id
row_of first (Made n) = id_at first n

-- the value of a write
abbrev pub value_of : Stamp → WriteValue → Value
value_of first (Plain value) = value
value_of first (IdOf n) = Text (id_at first n)

-- the message of the write at a place
abbrev pub message_at : Stamp → ℕ → Write → Message
message_at first n w = record { stamp = stamp_at first n; field = field_of w.dataset (row_of first w.row) w.column; value = value_of first w.value }

-- the messages of writes that stand from a place on
abbrev pub messages_from : Stamp → ℕ → List Write → List Message
messages_from first n [] = []
messages_from first n (w ∷ ws) = message_at first n w ∷ messages_from first (n + 1) ws

-- the messages of writes, under timestamps with counters in a row
abbrev pub stamped : Stamp → List Write → List Message
stamped first ws = messages_from first 0 ws

-- the write at a place makes its row, whose first write it is
abbrev pub makes_row : ℕ → RowName → Bool
makes_row n (Given id) = false
makes_row n (Made at) = at == n

-- the ids that writes make, which stand from a place on
abbrev pub ids_from : Stamp → ℕ → List Write → List (List ℕ)
ids_from first n [] = []
ids_from first n (w ∷ ws) = if makes_row n w.row then id_at first n ∷ ids_from first (n + 1) ws else ids_from first (n + 1) ws

-- the ids that writes make, in the order of the first writes of their rows
abbrev pub made_ids : Stamp → List Write → List (List ℕ)
made_ids first ws = ids_from first 0 ws
