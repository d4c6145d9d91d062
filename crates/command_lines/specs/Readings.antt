-- The answers of the lines that only read. They depend on the device's messages alone.
use Rattle.std.specs.Prelude.{ℕ, List, [], ◌∷◌, map, codes, Option, None, Some}
use Rattle.field_values.specs.Names.{field_of}
use Rattle.field_values.specs.declared.value.Value.{Value as AnyValue}
use Rattle.field_values.specs.Value.{value_text}
use Rattle.field_merge.specs.declared.message.Message.{Message}
use Rattle.field_merge.specs.Escapes.{escaped}
use Rattle.field_merge.specs.Messages.{message_line}
use Rattle.field_merge.specs.Log.{fields, messages_after, value_in}
use Rattle.minute_trie.specs.Trie.{trie_of}
use Rattle.minute_trie.specs.Json.{trie_text}
use Rattle.kept_messages.specs.Pairs.{pairs_of}
use Rattle.command_lines.specs.declared.command.Command.{Command}
use Rattle.command_lines.specs.declared.command.Command.TheVariants.{Edit, Undo, Redo, Receive, Fields, Messages, Value, Trie, Balance, Register, Cell, Sheet, Broken, ScheduleStatus, Goals, TrackCell, TrackSheet, Sync}
use Rattle.book_rows.specs.declared.rows.Rows.{Rows}
use Rattle.device_core.specs.Books.{rows_of}
use Rattle.command_lines.specs.BookAnswers.{balance_answer, register_answer, cell_answer, sheet_answer, broken_answer, status_answer, goals_answer, track_cell_answer, track_sheet_answer}
use Rattle.command_lines.specs.declared.reply.Reply.{Reply}
use Rattle.command_lines.specs.declared.reply.Reply.TheVariants.{Done}

-- how the value of a field is told, or that it has none
abbrev pub shown : Option AnyValue → List ℕ
shown None = codes "none"
shown (Some value) = escaped (value_text value)

-- what a line that asks of the books is answered, of a book with these rows
abbrev pub book_answer : Rows → Command → Reply
book_answer rows (Balance account) = balance_answer rows account
book_answer rows (Register account) = register_answer rows account
book_answer rows (Cell month name) = cell_answer rows month name
book_answer rows (Sheet month) = sheet_answer rows month
book_answer rows Broken = broken_answer rows
book_answer rows (ScheduleStatus id day) = status_answer rows id day
book_answer rows (Goals month) = goals_answer rows month
book_answer rows (TrackCell month name) = track_cell_answer rows month name
book_answer rows (TrackSheet month) = track_sheet_answer rows month
book_answer rows other = Done []

-- what a line that only reads is answered: the latest message of each field, the messages with a greater timestamp's text,
-- the value of a field, the text of the trie of all messages, or what is asked of the books, which are the rows of the messages.
-- The other lines are answered elsewhere.
abbrev pub answer : List Message → Command → Reply
answer messages Fields = Done (map message_line (fields messages))
answer messages (Messages since) = Done (map message_line (messages_after since messages))
answer messages (Value dataset row column) = Done (shown (value_in messages (field_of dataset row column)) ∷ [])
answer messages Trie = Done (trie_text (trie_of (pairs_of messages)) ∷ [])
answer messages (Balance account) = book_answer (rows_of messages) (Balance account)
answer messages (Register account) = book_answer (rows_of messages) (Register account)
answer messages (Cell month name) = book_answer (rows_of messages) (Cell month name)
answer messages (Sheet month) = book_answer (rows_of messages) (Sheet month)
answer messages Broken = book_answer (rows_of messages) Broken
answer messages (ScheduleStatus id day) = book_answer (rows_of messages) (ScheduleStatus id day)
answer messages (Goals month) = book_answer (rows_of messages) (Goals month)
answer messages (TrackCell month name) = book_answer (rows_of messages) (TrackCell month name)
answer messages (TrackSheet month) = book_answer (rows_of messages) (TrackSheet month)
answer messages (Edit edit) = Done []
answer messages Undo = Done []
answer messages Redo = Done []
answer messages (Receive message) = Done []
answer messages Sync = Done []

-- a line that only reads
abbrev pub IsReading : Command → Type 0
IsReading (Edit edit) = ⊥
IsReading Undo = ⊥
IsReading Redo = ⊥
IsReading (Receive message) = ⊥
IsReading Sync = ⊥
IsReading _ = Unit {0}

-- a line that asks of the rows of the books, and of no cell of the envelope budget
abbrev pub AsksRows : Command → Type 0
AsksRows (Balance account) = Unit {0}
AsksRows (Register account) = Unit {0}
AsksRows Broken = Unit {0}
AsksRows (ScheduleStatus id day) = Unit {0}
AsksRows (Goals month) = Unit {0}
AsksRows (TrackCell month name) = Unit {0}
AsksRows (TrackSheet month) = Unit {0}
AsksRows other = ⊥
