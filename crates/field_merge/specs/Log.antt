-- The message log: what a log is, what it is joined with, and what is read from it.
use Rattle.std.specs.Prelude.{ℕ, ◌-◌, List, [], ◌∷◌, length, Bool, if◌then◌else◌, Option, None, filter, map, option_map}
use Rattle.std.specs.Ordering.{is_eq, is_lt, is_gt, nat_cmp}
use Rattle.std.specs.Cmp.Lexicographic.{slice_cmp}
use Rattle.std.specs.List.{find, list_any, last_or, flat_map, slice_get}
use Rattle.std.specs.List.Sorted.{IsStrictlySortedBy}
use Rattle.std.specs.declared.cmp.Ordering.{Ordering}
use Rattle.field_values.specs.Names.{FieldNames, names_cmp}
use Rattle.field_values.specs.declared.value.Value.{Value}
use Rattle.hybrid_clock.specs.declared.stamp.Stamp.{Stamp}
use Rattle.hybrid_clock.specs.Stamp.{stamp_text}
use Rattle.hybrid_clock.specs.Order.{stamp_cmp}
use Rattle.field_merge.specs.declared.message.Message.{Message}
use Rattle.field_merge.specs.Messages.{message_line}
use Rattle.field_merge.specs.Lines.{ended}

-- the messages by timestamp, and whether a want of memory has spoilt the log
pub record LogState : Type 0 where
  pub messages : List Message
  pub spent : Bool

-- each message is later than those before it
abbrev pub IsRising : List Message → Type 0
IsRising ms = IsStrictlySortedBy stamp_cmp (map (λ m. m.stamp) ms)

-- each field comes after those before it, by dataset, row and column
abbrev pub IsByField : List Message → Type 0
IsByField ms = IsStrictlySortedBy names_cmp (map (λ m. m.field) ms)

-- whether a message has the timestamp
abbrev pub has_stamp : Stamp → Message → Bool
has_stamp s m = is_eq (stamp_cmp s m.stamp)

-- whether a message is one of the field
abbrev pub has_field : FieldNames → Message → Bool
has_field f m = is_eq (names_cmp f m.field)

-- the first message with the timestamp
abbrev pub at_stamp : List Message → Stamp → Option Message
at_stamp ms s = find (has_stamp s) ms

-- the messages with n before the first one that comes after it in the order
abbrev pub placed : (Message → Message → Ordering) → List Message → Message → List Message
placed cmp [] n = n ∷ []
placed cmp (m ∷ ms) n = if is_lt (cmp n m) then n ∷ m ∷ ms else m ∷ placed cmp ms n

-- the order of messages by timestamp
abbrev pub by_stamp : Message → Message → Ordering
by_stamp m n = stamp_cmp m.stamp n.stamp

-- the order of messages by dataset, row and column of the field
abbrev pub by_field : Message → Message → Ordering
by_field m n = names_cmp m.field n.field

-- a message takes its place among messages that lack its timestamp; of one timestamp the first message stays
abbrev pub join_one : List Message → Message → List Message
join_one ms n = if list_any (has_stamp n.stamp) ms then ms else placed by_stamp ms n

-- the messages of the second list join the first list one after the other
abbrev pub join : List Message → List Message → List Message
join ms [] = ms
join ms (n ∷ ns) = join (join_one ms n) ns

-- the latest message of a field: the last one of the field
abbrev pub latest : List Message → FieldNames → Option Message
latest ms f = last_or None (filter (has_field f) ms)

-- the value of a field: that of its latest message
abbrev pub value_in : List Message → FieldNames → Option Value
value_in ms f = option_map (λ m. m.value) (latest ms f)

-- the latest message of each field, by dataset, row and column: each message but those that a later one of its field follows
abbrev pub fields : List Message → List Message
fields [] = []
fields (m ∷ ms) = if list_any (has_field m.field) ms then fields ms else placed by_field (fields ms) m

-- the line of a message with its end
abbrev pub ended_line : Message → List ℕ
ended_line m = ended (message_line m)

-- the lines of the latest message of each field
abbrev pub field_text : List Message → List ℕ
field_text ms = flat_map ended_line (fields ms)

-- the timestamp of the last message
abbrev pub last_stamp : List Message → Option Stamp
last_stamp ms = option_map (λ m. m.stamp) (slice_get ms (length ms - 1))

-- whether the text of a message's timestamp is greater than the text, by bytes
abbrev pub is_after : List ℕ → Message → Bool
is_after text m = is_gt (slice_cmp nat_cmp (stamp_text m.stamp) text)

-- the messages whose timestamp's text is greater than the text
abbrev pub messages_after : List ℕ → List Message → List Message
messages_after text ms = filter (is_after text) ms
