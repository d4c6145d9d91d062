-- How an append in memory takes back what it added.
use Rattle.std.specs.Prelude.{ℕ, List, [], ◌∷◌, Option, None, Some}
use Rattle.std.specs.List.{slice_get}
use Rattle.std.specs.FinMap.{remove}
use Rattle.budget_ports.specs.declared.keeper.Record.{Record}
use Rattle.budget_ports.specs.Groups.{Bodies}

-- without the record under the key of this one, if it is one
abbrev pub without : Bodies → Option Record → Bodies
without m None = m
without m (Some r) = remove m r.key

-- without the records of a batch that stand at these places in it, of which the last is taken out first
abbrev pub taken_out : List Record → Bodies → List ℕ → Bodies
taken_out batch m [] = m
taken_out batch m (i ∷ is) = without (taken_out batch m is) (slice_get batch i)
