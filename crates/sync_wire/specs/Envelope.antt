-- The content of an envelope, and the envelope.
use Rattle.std.specs.Prelude.{ℕ, ◌-◌, List, [], length, Bool, false, ◌==◌, ◌||◌, Option, Some, None, Result, Ok, Err, if◌then◌else◌}
use Rattle.field_values.specs.declared.name.NameFault.{NameFault}
use Rattle.field_values.specs.Names.{field_of, names_fault}
use Rattle.hybrid_clock.specs.declared.stamp.Stamp.{Stamp}
use Rattle.hybrid_clock.specs.declared.stamp.StampFault.{StampFault}
use Rattle.hybrid_clock.specs.Reading.{read_stamp}
use Rattle.field_merge.specs.declared.message.Message.{Message}
use Rattle.field_merge.specs.Messages.{message_of}
use Rattle.sync_wire.specs.declared.fault.WireFault.{WireFault}
use Rattle.sync_wire.specs.declared.fault.WireFault.TheVariants.{BadStamp, BadMessage}
use Rattle.sync_wire.specs.declared.layout.Layout.TheVariants as layouts
use Rattle.sync_wire.specs.declared.content.Texts.{Texts}
use Rattle.sync_wire.specs.declared.envelope.Outlined.{Outlined}
use Rattle.sync_wire.specs.Reading.{◌>>=◌}
use Rattle.sync_wire.specs.Fields.{Tagged}
use Rattle.sync_wire.specs.Meaning.{steps, reading, bytes_in, flag_in, text, last_else, text_fault, fault_within}

-- ---- a content: dataset 1, row 2, column 3, value 4

-- what its fields say
pub record Written : Type 0 where
  pub dataset : List ℕ
  pub row : List ℕ
  pub column : List ℕ
  pub value : List ℕ

abbrev pub texts_seen : Texts → Written
texts_seen t = record { dataset = t.dataset.now; row = t.row.now; column = t.column.now; value = t.value.now }

-- each of its texts has to be UTF-8, also one that a later one stands for
abbrev pub content_check : Tagged → Option WireFault
content_check t = if t.number == 1 || t.number == 2 || t.number == 3 || t.number == 4 then fault_within text_fault t.payload else None

abbrev pub content_of : List Tagged → Written
content_of fields = record { dataset = text 1 fields; row = text 2 fields; column = text 3 fields; value = text 4 fields }

unfoldable pub content_at : ℕ → List ℕ → Result Written WireFault
content_at end bytes = reading content_check content_of (steps layouts.Content end bytes)

-- the message, where its names have no fault
abbrev pub unless : Option NameFault → WireFault → Message → Result Message WireFault
unless None fault m = Ok m
unless (Some found) fault m = Err fault

-- the message of an envelope that begins at start
abbrev pub message_from : ℕ → Stamp → Written → Result Message WireFault
message_from start stamp w = let field = field_of w.dataset w.row w.column in
    unless (names_fault field) (BadMessage start) (message_of stamp field w.value)

-- ---- an envelope: timestamp 1, encrypted 2, content 3

-- what its fields say; the content is not read yet, and stands with the place where it ends
pub record Outline : Type 0 where
  pub stamp : List ℕ
  pub encrypted : Bool
  pub content : ℕ × List ℕ

abbrev pub outline_seen : Outlined → Outline
outline_seen o = record { stamp = o.stamp.now; encrypted = o.encrypted; content = (o.content_end, o.content.now) }

abbrev pub envelope_check : Tagged → Option WireFault
envelope_check t = if t.number == 1 then fault_within text_fault t.payload else None

abbrev pub outline_of : List Tagged → Outline
outline_of fields = record { stamp = text 1 fields; encrypted = last_else false (flag_in 2) fields; content = last_else (0, []) (bytes_in 3) fields }

unfoldable pub outline_at : ℕ → List ℕ → Result Outline WireFault
outline_at end bytes = reading envelope_check outline_of (steps layouts.Envelope end bytes)

-- an envelope that is encrypted has no message to be read, but a timestamp
abbrev pub sealed : ℕ → Result Stamp StampFault → Result (Option Message) WireFault
sealed start (Ok stamp) = Ok None
sealed start (Err found) = Err (BadStamp start)

-- one that is not: the timestamp is judged, and then the names
abbrev pub opened : ℕ → Result Stamp StampFault → Written → Result (Option Message) WireFault
opened start (Err found) w = Err (BadStamp start)
opened start (Ok stamp) w = message_from start stamp w >>= λ m. Ok (Some m)

-- What follows at an envelope's end: its content, then the timestamp, then the names. None: it is encrypted.
unfoldable pub message_in : ℕ → Outline → Result (Option Message) WireFault
message_in start o =
    if o.encrypted then sealed start (read_stamp o.stamp)
    else (content_at o.content.0 o.content.1 >>= λ w. opened start (read_stamp o.stamp) w)

-- what the bytes of an envelope hold
unfoldable pub envelope_at : ℕ → List ℕ → Result (Option Message) WireFault
envelope_at end bytes = outline_at end bytes >>= message_in (end - length bytes)
