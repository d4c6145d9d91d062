-- How a log keeps its messages: a map by timestamp, and an index from each field to its latest message.
use Rattle.std.specs.Prelude.{◌≡◌, ◌≢◌, ◌↔◌, ◌&&◌, cond, List, Bool, false, true, IsTrue, Option, None, Some, IsSome}
use Rattle.std.specs.Ordering.{is_lt}
use Rattle.std.specs.List.{AllByRecursion}
use Rattle.std.specs.List.Sorted.{IsStrictlySortedBy}
use Rattle.std.specs.Map.{keys_of, values_of, lookup}
use Rattle.std.specs.BTreeMap.{is_at}
use Rattle.std.specs.BTreeSet.{BTreeSet, contains}
use Rattle.field_values.specs.Names.{FieldNames, names_cmp}
use Rattle.hybrid_clock.specs.declared.stamp.Stamp.{Stamp}
use Rattle.hybrid_clock.specs.Order.{stamp_cmp}
use Rattle.field_merge.specs.declared.message.Message.{Message}
use Rattle.field_merge.specs.Hashed.{hashed_cmp}
use Rattle.field_merge.specs.Messages.{AreMessages}
use Rattle.field_merge.specs.Log.{at_stamp, latest}

-- valid messages, each under its own timestamp, in the order of the timestamps
pub record AreEntries (entries : List (Stamp × Message)) : Type 0 where
  pub rising : IsStrictlySortedBy stamp_cmp (keys_of entries)
  pub own : AllByRecursion (λ e. e.0 ≡ e.1.stamp) entries
  pub valid : AreMessages (values_of entries)

-- the index has the fields of the messages and no other, each with its latest message
abbrev pub IsIndex : List Message → List (FieldNames × Message) → Type 0
IsIndex ms index = (f : FieldNames) → lookup (is_at (hashed_cmp f)) index ≡ latest ms f

-- the messages always stand; the index is right unless a want of memory has spoilt it
pub record IsStored (entries : List (Stamp × Message)) (index : List (FieldNames × Message)) (spent : Bool) : Type 0 where
  pub entries_stand : AreEntries entries
  pub index_right : spent ≡ false → IsIndex (values_of entries) index

-- whether a message with the timestamp s is later than the one that the index has, or it has none
abbrev pub is_newer : Option Message → Stamp → Bool
is_newer None s = true
is_newer (Some m) s = is_lt (stamp_cmp m.stamp s)

-- `wins` says whether m is later than the message of its field in the index, or there is none; the index then has m there, and is otherwise as before
pub record Notes (index new_index : List (FieldNames × Message)) (m : Message) (wins : Bool) : Type 0 where
  pub is_later : wins ≡ is_newer (lookup (is_at (hashed_cmp m.field)) index) m.stamp
  pub now : (f : FieldNames) → lookup (is_at (hashed_cmp f)) new_index ≡ cond (wins && is_at (hashed_cmp m.field) f) (Some m) (lookup (is_at (hashed_cmp f)) index)

-- on the way from the messages `before` to ms, the marked fields are those whose latest message is now another one
pub record MarksChanged (before ms : List Message) (marked : BTreeSet FieldNames) : Type 0 where
  pub grown : (s : Stamp) → IsSome (at_stamp before s) → IsSome (at_stamp ms s)
  pub exactly : (f : FieldNames) → IsTrue (contains names_cmp marked f) ↔ (latest before f ≢ latest ms f)
