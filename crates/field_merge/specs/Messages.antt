-- Messages and their lines.
use Rattle.std.specs.Prelude.{ℕ, List, [], ◌∷◌, map}
use Rattle.std.specs.List.{join_with_byte, AllByRecursion}
use Rattle.field_values.specs.Names.{FieldNames, AreNames}
use Rattle.field_values.specs.Value.{value_text, value_of, IsValue}
use Rattle.hybrid_clock.specs.declared.stamp.Stamp.{Stamp}
use Rattle.hybrid_clock.specs.Stamp.{stamp_text, IsStamp}
use Rattle.field_merge.specs.declared.message.Message.{Message}
use Rattle.field_merge.specs.Escapes.{escaped}

-- a message whose timestamp, names and value are valid
pub record IsMessage (m : Message) : Type 0 where
  pub stamp : IsStamp m.stamp
  pub field : AreNames m.field
  pub value : IsValue m.value

-- each message is valid
abbrev pub AreMessages : List Message → Type 0
AreMessages ms = AllByRecursion IsMessage ms

-- the message of a timestamp, a field and the text of a value
abbrev pub message_of : Stamp → FieldNames → List ℕ → Message
message_of stamp field value = record { stamp = stamp; field = field; value = value_of value }

-- what a line tells of a message behind its timestamp: dataset, row, column and value, each as a text
abbrev pub body_texts : Message → List (List ℕ)
body_texts m = m.field.dataset ∷ m.field.row ∷ m.field.column ∷ value_text m.value ∷ []

-- what a line tells of a message: the timestamp, and these
abbrev pub message_texts : Message → List (List ℕ)
message_texts m = stamp_text m.stamp ∷ body_texts m

-- texts as the parts of a line: each escaped, with a TAB between them
abbrev pub line_of_texts : List (List ℕ) → List ℕ
line_of_texts texts = join_with_byte 9 (map escaped texts)

-- the line of a message
abbrev pub message_line : Message → List ℕ
message_line m = line_of_texts (message_texts m)

-- the line of a message without its timestamp
abbrev pub message_body : Message → List ℕ
message_body m = line_of_texts (body_texts m)
