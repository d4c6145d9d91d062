-- What a keeper holds: records by group and key, and texts by name.
use Rattle.std.specs.Prelude.{ℕ, List, [], ◌∷◌, Bool, ◌&&◌, filter, map, if◌then◌else◌}
use Rattle.std.specs.Ordering.{nat_cmp, ordering_then, is_lt, is_eq}
use Rattle.std.specs.declared.cmp.Ordering.{Ordering}
use Rattle.std.specs.Cmp.Lexicographic.{slice_cmp}
use Rattle.std.specs.FinMap.{FinMap, entries, empty, contains_key, insert}
use Rattle.budget_ports.specs.declared.keeper.Record.{Record}

-- the bytes of a text
abbrev pub Text : Type 0
Text = List ℕ

-- texts are ordered byte by byte
abbrev pub text_cmp : Text → Text → Ordering
text_cmp = slice_cmp nat_cmp

-- a group and a key
abbrev pub Place : Type 0
Place = Text × Text

-- by group, then by key
abbrev pub place_cmp : Place → Place → Ordering
place_cmp a b = ordering_then (text_cmp a.0 b.0) (text_cmp a.1 b.1)

-- a group and a key give a body, and a name gives a text. A group is there where it has a record
pub record Contents : Type 0 where
  pub records : FinMap place_cmp Text
  pub texts : FinMap text_cmp Text

-- no record and no text
abbrev pub nothing : Contents
nothing = record { records = empty; texts = empty }

-- whether an entry is of this group, with a key above this one
abbrev pub is_in : Text → Text → Place × Text → Bool
is_in group after entry = is_eq (text_cmp entry.0.0 group) && is_lt (text_cmp after entry.0.1)

-- an entry as a record, whose group is known
abbrev pub of_entry : Place × Text → Record
of_entry entry = record { key = entry.0.1; body = entry.1 }

-- the records of a group with a key above this one, by key
abbrev pub records_of_after : FinMap place_cmp Text → Text → Text → List Record
records_of_after m group after = map of_entry (filter (is_in group after) (entries m))

-- the records of a keeper's group with a key above this one, by key
abbrev pub records_after : Contents → Text → Text → List Record
records_after k group after = records_of_after k.records group after

-- a record whose key is there is left out
abbrev pub with_record : Text → FinMap place_cmp Text → Record → FinMap place_cmp Text
with_record group m r = if contains_key m (group, r.key) then m else insert m (group, r.key) r.body

-- the records of a list, one after the other: so of several with one key the first counts
abbrev pub with_records : Text → FinMap place_cmp Text → List Record → FinMap place_cmp Text
with_records group m [] = m
with_records group m (r ∷ rs) = with_records group (with_record group m r) rs

-- a list of records is added to a group
abbrev pub appended : Contents → Text → List Record → Contents
appended k group batch = record k { records = with_records group k.records batch }

-- a name has one text, the last that was put
abbrev pub with_text : Contents → Text → Text → Contents
with_text k name text = record k { texts = insert k.texts name text }
