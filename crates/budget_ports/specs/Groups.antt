-- The records of a keeper in memory in two levels: by group, and in a group by key.
use Rattle.std.specs.Prelude.{List, [], ◌∷◌, ◌++◌, filter, map, if◌then◌else◌}
use Rattle.std.specs.Ordering.{is_lt}
use Rattle.std.specs.FinMap.{FinMap, entries, from_entries, contains_key, insert}
use Rattle.budget_ports.specs.declared.keeper.Record.{Record}
use Rattle.budget_ports.specs.Contents.{Text, text_cmp, Place, place_cmp}

-- the bodies of one group, by key
abbrev pub Bodies : Type 0
Bodies = FinMap text_cmp Text

-- the entries of a group, each under its place
abbrev pub placed : Text → List (Text × Text) → List (Place × Text)
placed group es = map (λ e. ((group, e.0), e.1)) es

-- the entries of all groups, each under its place
abbrev pub all_placed : List (Text × Bodies) → List (Place × Text)
all_placed [] = []
all_placed (g ∷ gs) = placed g.0 (entries g.1) ++ all_placed gs

-- both levels as one map: under a group and a key it has what the group's bodies have under the key. A group without bodies has no part in it
abbrev pub flattened : FinMap text_cmp Bodies → FinMap place_cmp Text
flattened m = from_entries (all_placed (entries m))

-- a record whose key is there is left out
abbrev pub with_body : Bodies → Record → Bodies
with_body m r = if contains_key m r.key then m else insert m r.key r.body

-- the records of a list, one after the other
abbrev pub with_bodies : Bodies → List Record → Bodies
with_bodies m [] = m
with_bodies m (r ∷ rs) = with_bodies (with_body m r) rs

-- the records with a key above this one, by key
abbrev pub bodies_after : Bodies → Text → List Record
bodies_after m after = map (λ e. record { key = e.0; body = e.1 }) (filter (λ e. is_lt (text_cmp after e.0)) (entries m))
