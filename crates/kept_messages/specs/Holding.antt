-- What a keeper holds of a message set: the records of one group.
use Rattle.std.specs.Prelude.{◌≡◌, ◌≢◌, List, [], map, None, Some, Ok}
use Rattle.std.specs.List.{Contains}
use Rattle.std.specs.FinMap.{get}
use Rattle.budget_ports.specs.Contents.{Contents, Text, Place, records_after, appended}
use Rattle.field_merge.specs.declared.message.Message.{Message}
use Rattle.field_merge.specs.Messages.{AreMessages}
use Rattle.field_merge.specs.Log.{join}
use Rattle.kept_messages.specs.Records.{record_of, kept_set}
use Rattle.kept_messages.specs.News.{new_in}

-- what all other groups keep, and the texts, are as they were
pub record Others (group : Text) (entry now : Contents) : Type 0 where
  pub records : (place : Place) → place.0 ≢ group → get now.records place ≡ get entry.records place
  pub texts : now.texts ≡ entry.texts

-- the group keeps this message set, and all else is as it was
pub record Holds (group : Text) (entry now : Contents) (ms : List Message) : Type 0 where
  pub messages : kept_set (records_after now group []) ≡ Ok ms
  -- a record that the group had at entry is there still, as it was
  pub kept : (key body : Text) → get entry.records (group, key) ≡ Some body → get now.records (group, key) ≡ Some body
  -- a record under a key that the group lacked at entry is just the record of a message of the set
  pub written : (key body : Text) → get entry.records (group, key) ≡ None → get now.records (group, key) ≡ Some body
      → (m : Message) × Contains ms m × (record_of m ≡ record { key = key; body = body })
  pub others : Others group entry now

-- A group that keeps a message set keeps, when the records of the new ones of other messages are appended,
-- that set joined with these messages; its records are still those of entry, as they were, and records of
-- messages of the set; and all else stays.
abbrev pub BatchesAreKept : Type 0
BatchesAreKept = (group : Text) (entry now : Contents) (ms ns : List Message) → AreMessages ns → Holds group entry now ms →
    Holds group entry (appended now group (map record_of (new_in ms ns))) (join ms ns)
