-- What joining keeps, what the latest message of a field is, and what a join tells, in the words of those who use the log.
use Rattle.std.specs.Prelude.{◌≡◌, ◌≢◌, ◌↔◌, ◌⊎◌, List, false, Option, None, Some}
use Rattle.std.specs.Ordering.{is_gt}
use Rattle.std.specs.List.{Contains, IsDistinct}
use Rattle.std.specs.Option.{option_or}
use Rattle.field_values.specs.Names.{FieldNames, names_eq}
use Rattle.hybrid_clock.specs.declared.stamp.Stamp.{Stamp}
use Rattle.hybrid_clock.specs.Order.{stamp_cmp}
use Rattle.field_merge.specs.declared.message.Message.{Message}
use Rattle.field_merge.specs.Log.{IsRising, IsByField, at_stamp, latest}

-- `all` is the join of ms and ns: it rises by timestamp where ms does, a timestamp finds in it the message of ms or else the first one of ns, and it has no message but those of ms and ns
pub record IsJoin (ms ns all : List Message) : Type 0 where
  pub rising : IsRising ms → IsRising all
  pub found : (s : Stamp) → at_stamp all s ≡ option_or (at_stamp ms s) (at_stamp ns s)
  pub no_other : (m : Message) → Contains all m → Contains ms m ⊎ Contains ns m

-- m is the latest message of the field: one of the field, and none of the field has a greater timestamp
pub record IsLatest (ms : List Message) (f : FieldNames) (m : Message) : Type 0 where
  pub there : Contains ms m
  pub of_field : m.field ≡ f
  pub greatest : (n : Message) → Contains ms n → n.field ≡ f → is_gt (stamp_cmp n.stamp m.stamp) ≡ false

-- no message is one of the field
abbrev pub HasNone : List Message → FieldNames → Type 0
HasNone ms f = (m : Message) → Contains ms m → m.field ≢ f

-- the latest message of the field, or none where no message is one of the field
abbrev pub IsLatestOrNone : List Message → FieldNames → Option Message → Type 0
IsLatestOrNone ms f None = HasNone ms f
IsLatestOrNone ms f (Some m) = IsLatest ms f m

-- `listed` has the latest message of each field of ms and no other message, by dataset, row and column
pub record ListsLatest (ms listed : List Message) : Type 0 where
  pub in_order : IsByField listed
  pub exactly : (m : Message) → Contains listed m ↔ (latest ms m.field ≡ Some m)

-- `changed` names each field whose latest message is another one in `new` than in `old`, once, and no other field
pub record AreChanged (old new : List Message) (changed : List FieldNames) : Type 0 where
  pub once : IsDistinct names_eq changed
  pub exactly : (f : FieldNames) → Contains changed f ↔ (latest old f ≢ latest new f)

-- in ns, equal timestamps mean equal messages
abbrev pub HasOneEach : List Message → Type 0
HasOneEach ns = (m n : Message) → Contains ns m → Contains ns n → m.stamp ≡ n.stamp → m ≡ n

-- the same messages, in any order and number
abbrev pub HaveSame : List Message → List Message → Type 0
HaveSame ns ps = (m : Message) → Contains ns m ↔ Contains ps m
