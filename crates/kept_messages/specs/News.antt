-- Which of the messages that come are new.
use Rattle.std.specs.Prelude.{◌≡◌, ◌+◌, ◌⊎◌, List, [], ◌∷◌, length, if◌then◌else◌, None}
use Rattle.std.specs.List.{Contains, list_any}
use Rattle.field_merge.specs.declared.message.Message.{Message}
use Rattle.field_merge.specs.Log.{at_stamp, has_stamp, join_one, join}

-- those of the messages whose timestamp is new: no message of ms has it, and no earlier one of them
abbrev pub new_in : List Message → List Message → List Message
new_in ms [] = []
new_in ms (n ∷ ns) = if list_any (has_stamp n.stamp) ms then new_in ms ns else n ∷ new_in (join_one ms n) ns

-- the first messages are the second ones, in their order, with some left out or none
abbrev pub IsPartOf : List Message → List Message → Type 0
IsPartOf [] ns = Unit {0}
IsPartOf (m ∷ ms) [] = ⊥
IsPartOf (m ∷ ms) (n ∷ ns) = ((m ≡ n) × IsPartOf ms ns) ⊎ IsPartOf (m ∷ ms) ns

-- `new` are those of ns that are new to ms, in the order of ns: joining them joins all of ns, the join has one message more for each of them, and each has a timestamp that no message of ms has
pub record AreNew (ms ns new : List Message) : Type 0 where
  pub joined : join ms new ≡ join ms ns
  pub number : length (join ms ns) ≡ length ms + length new
  pub in_order : IsPartOf new ns
  pub unknown : (m : Message) → Contains new m → at_stamp ms m.stamp ≡ None

-- `new_in` finds the messages that are new, and no others
abbrev pub NewOnesAreAdded : Type 0
NewOnesAreAdded = (ms ns : List Message) → AreNew ms ns (new_in ms ns)
