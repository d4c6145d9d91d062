-- How the records of a group are read.
use Rattle.std.specs.Prelude.{◌≡◌, ℕ, ◌<◌, ◌↔◌, List, [], length, None, Some, Result, Ok, Err}
use Rattle.std.specs.List.{Contains}
use Rattle.std.specs.FinMap.{get}
use Rattle.std.specs.declared.cmp.Ordering.TheVariants.{Less}
use Rattle.budget_ports.specs.declared.keeper.Record.{Record}
use Rattle.budget_ports.specs.Contents.{Contents, Text, text_cmp, records_after}
use Rattle.budget_ports.specs.Keeper.{Rise}
use Rattle.field_merge.specs.declared.message.Message.{Message}
use Rattle.field_merge.specs.Log.{IsRising}
use Rattle.kept_messages.specs.Records.{message_in, kept_set, KeepMessages}

-- the group keeps this record, whose key has at least one byte
abbrev pub IsKept : Contents → Text → Record → Type 0
IsKept contents group r = (0 < length r.key) × (get contents.records (group, r.key) ≡ Some r.body)

-- the messages are those of the group's records, by timestamp: each record keeps one of them, and each of them is kept by one
pub record AreOfGroup (contents : Contents) (group : Text) (ms : List Message) : Type 0 where
  pub rising : IsRising ms
  pub each : (r : Record) → IsKept contents group r → (m : Message) × (message_in r ≡ Some m) × Contains ms m
  pub no_other : (m : Message) → Contains ms m → (r : Record) × IsKept contents group r × (message_in r ≡ Some m)

-- the group keeps a record that keeps no message; all of its records with a lesser key keep one, and there are so many of them
pub record IsFirstBad (contents : Contents) (group : Text) (index : ℕ) : Type 0 where
  pub bad : Record
  pub kept : IsKept contents group bad
  pub no_message : message_in bad ≡ None
  pub before : List Record
  pub each_once : Rise before
  pub are_before : (r : Record) → Contains before r ↔ (IsKept contents group r × (text_cmp r.key bad.key ≡ Less))
  pub keep : KeepMessages before
  pub number : length before ≡ index

-- a group is read as a message set, or as the place of a bad record
abbrev pub IsReadAs : Contents → Text → Result (List Message) ℕ → Type 0
IsReadAs contents group (Ok ms) = AreOfGroup contents group ms
IsReadAs contents group (Err index) = IsFirstBad contents group index

-- a group's message set has the message of each record, and no other; where some record keeps none, the first such is told by the number of those before it
abbrev pub GroupsAreRead : Type 0
GroupsAreRead = (contents : Contents) (group : Text) → IsReadAs contents group (kept_set (records_after contents group []))
