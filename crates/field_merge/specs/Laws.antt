-- What the laws say of all lines, of all messages and of all lists of messages.
use Rattle.std.specs.Prelude.{◌≡◌, ◌≢◌, ℕ, All, List, ◌∷◌, ◌++◌, length, false, None, Some, Ok}
use Rattle.std.specs.List.{flat_map}
use Rattle.field_values.specs.Names.{FieldNames}
use Rattle.hybrid_clock.specs.declared.stamp.Stamp.{Stamp}
use Rattle.hybrid_clock.specs.Stamp.{IsStamp, stamp_text}
use Rattle.field_merge.specs.declared.message.Message.{Message}
use Rattle.field_merge.specs.Escapes.{bad_escape, escaped, is_letter, raw_escaped}
use Rattle.field_merge.specs.Messages.{IsMessage, message_line}
use Rattle.field_merge.specs.Lines.{reading}
use Rattle.field_merge.specs.Log.{IsRising, fields, join, latest}
use Rattle.field_merge.specs.Joining.{HasOneEach, HaveSame, IsJoin, IsLatestOrNone, ListsLatest}

-- what is written is read back
abbrev pub MessagesReadBack : Type 0
MessagesReadBack = (m : Message) → IsMessage m → reading (message_line m) ≡ Ok m

-- what is read is a message that may be written
abbrev pub ReadMessagesAreValid : Type 0
ReadMessagesAreValid = (line : List ℕ) (m : Message) → reading line ≡ Ok m → IsMessage m

-- a line that is read as a message is the message's line, but for the bytes 0 and LF that stand in it without their escape
abbrev pub ReadLinesWriteBack : Type 0
ReadLinesWriteBack = (line : List ℕ) (m : Message) → reading line ≡ Ok m → message_line m ≡ flat_map raw_escaped line

-- a message's line has no LF, so lines that LF ends can be told apart
abbrev pub MessagesHaveOneLine : Type 0
MessagesHaveOneLine = (m : Message) → All (λ b. b ≢ 10) (message_line m)

-- the place is that of the first backslash that begins no escape
pub record IsBadEscape (text : List ℕ) (at : ℕ) : Type 0 where
  -- what stands before it
  pub front : List ℕ
  -- what stands behind it
  pub rest : List ℕ
  -- a backslash stands between them
  pub cut : text ≡ front ++ 92 ∷ rest
  -- as many bytes as the place says stand before it
  pub place : length front ≡ at
  -- the text before it has no bad escape
  pub good : bad_escape front ≡ None
  -- no letter of an escape stands behind it
  pub bad : (c : ℕ) (more : List ℕ) → rest ≡ c ∷ more → is_letter c ≡ false

-- the place that is told of a bad escape is that of the first one
abbrev pub BadEscapesAreFound : Type 0
BadEscapesAreFound = (text : List ℕ) (at : ℕ) → bad_escape text ≡ Some at → IsBadEscape text at

-- a part writes the text of a timestamp as it is, so a message's line begins with it
abbrev pub StampsHaveNoEscape : Type 0
StampsHaveNoEscape = (s : Stamp) → IsStamp s → escaped (stamp_text s) ≡ stamp_text s

-- `join` joins
abbrev pub JoinsAreJoins : Type 0
JoinsAreJoins = (ms ns : List Message) → IsJoin ms ns (join ms ns)

-- of messages that rise by timestamp, `latest` finds the latest message of a field, and none only where no message is one of the field
abbrev pub LatestIsLatest : Type 0
LatestIsLatest = (ms : List Message) (f : FieldNames) → IsRising ms → IsLatestOrNone ms f (latest ms f)

-- `fields` lists the latest message of each field
abbrev pub FieldsListLatest : Type 0
FieldsListLatest = (ms : List Message) → ListsLatest ms (fields ms)

-- joining the same messages again changes nothing
abbrev pub JoinsAgain : Type 0
JoinsAgain = (ms ns : List Message) → join (join ms ns) ns ≡ join ms ns

-- joining two lists in turn is joining the one followed by the other
abbrev pub JoinsInTurn : Type 0
JoinsInTurn = (ms ns ps : List Message) → join (join ms ns) ps ≡ join ms (ns ++ ps)

-- where the first list rises by timestamp, and equal timestamps mean equal messages among those that join it, the order and the number
-- in which these are joined do not matter
abbrev pub JoinsInAnyOrder : Type 0
JoinsInAnyOrder = (ms ns ps : List Message) → IsRising ms → HasOneEach ns → HaveSame ns ps → join ms ns ≡ join ms ps
