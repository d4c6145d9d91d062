-- The records that a keeper keeps of messages.
use Rattle.std.specs.Prelude.{◌≡◌, ℕ, List, [], ◌∷◌, ◌++◌, length, is_none, is_ok, true, IsSome, if◌then◌else◌, Option, None, Some, Result, Ok, Err}
use Rattle.std.specs.Result.{result_ok}
use Rattle.std.specs.List.{AllByRecursion, filter_map, flat_map, position_from}
use Rattle.hybrid_clock.specs.Stamp.{stamp_text}
use Rattle.hybrid_clock.specs.Reading.{read_stamp}
use Rattle.budget_ports.specs.declared.keeper.Record.{Record}
use Rattle.field_merge.specs.declared.message.Message.{Message}
use Rattle.field_merge.specs.Escapes.{raw_escaped}
use Rattle.field_merge.specs.Lines.{reading}
use Rattle.field_merge.specs.Messages.{IsMessage, message_body}
use Rattle.field_merge.specs.Log.{join}
use Rattle.kept_messages.specs.declared.join.StartFault.{StartFault}
use Rattle.kept_messages.specs.declared.join.StartFault.TheVariants.{BadRecord, NoMemory}

-- a message as it is kept: its timestamp's text is the key, and the rest of its line is the body
abbrev pub record_of : Message → Record
record_of m = record { key = stamp_text m.stamp; body = message_body m }

-- the message that a record keeps: its key by itself is a timestamp's text, and key, TAB and body are a message's line
abbrev pub message_in : Record → Option Message
message_in r = if is_ok (read_stamp r.key) then result_ok (reading (r.key ++ 9 ∷ r.body)) else None

-- the messages, unless there is a record that keeps none, at this place
abbrev pub unless_bad : Option ℕ → List Message → Result (List Message) ℕ
unless_bad None ms = Ok ms
unless_bad (Some index) ms = Err index

-- the message set that records keep: their messages, joined in the order of the records; or the place of the first record that keeps no message
abbrev pub kept_set : List Record → Result (List Message) ℕ
kept_set rs = unless_bad (position_from (λ r. is_none (message_in r)) 0 rs) (join [] (filter_map message_in rs))

-- the first record that keeps no message was told, or memory ran out
abbrev pub IsStartFault : Result (List Message) ℕ → StartFault → Type 0
IsStartFault meant (BadRecord index) = meant ≡ Err index
IsStartFault meant NoMemory = Unit {0}

-- there is a first record, whose key is a timestamp's text
abbrev pub HasFirstStamp : List Record → Type 0
HasFirstStamp [] = ⊥
HasFirstStamp (r ∷ rs) = is_ok (read_stamp r.key) ≡ true

-- the record of a message keeps that message; and a record that keeps a message is that message's record, but for the bytes 0 and LF that stand in its body without their escape
pub record RecordsReadBack : Type 0 where
  pub reads_back : (m : Message) → IsMessage m → message_in (record_of m) ≡ Some m
  pub writes_back : (r : Record) (m : Message) → message_in r ≡ Some m → record_of m ≡ record r { body = flat_map raw_escaped r.body }

-- each of the records keeps a message
abbrev pub KeepMessages : List Record → Type 0
KeepMessages = AllByRecursion (λ r. IsSome (message_in r))

-- how records are read
pub record RecordsAreRead : Type 0 where
  -- records of which each keeps a message have a message set: their messages, joined in their order
  pub good : (rs : List Record) → KeepMessages rs → kept_set rs ≡ Ok (join [] (filter_map message_in rs))
  -- else the place of the first that keeps none is told, which is the number of those before it, whatever stands behind it
  pub first_bad : (front rest : List Record) (r : Record) → KeepMessages front → message_in r ≡ None → kept_set (front ++ r ∷ rest) ≡ Err (length front)
