-- The records of a group from the latest key on.
use Rattle.std.specs.Prelude.{◌≡◌, ◌≤◌, ℕ, List, Some, length, map}
use Rattle.std.specs.List.{slice_get}
use Rattle.std.specs.Cmp.{IsTotalOrder}
use Rattle.std.proofs.lemmas.Cmp.{back_total, nat_list_cmp_total, on_total}
use Rattle.std.specs.declared.cmp.Ordering.{Ordering}
use Rattle.budget_ports.specs.declared.keeper.Record.{Record}
use Rattle.budget_ports.specs.Contents.{Text, text_cmp}

-- a key and a body, and for how many bytes there is room
abbrev pub Roomy : Type 0
Roomy = Text × (Text × ℕ)

-- the greatest key first
abbrev pub latest_first : Roomy → Roomy → Ordering
latest_first a b = text_cmp b.0 a.0

-- keys with their bodies
abbrev pub by_text : List Roomy → List (Text × Text)
by_text ks = map (λ k. (k.0, k.1.0)) ks

-- so many bytes are room for the key of each record
abbrev pub IsRoomFor : List Record → ℕ → Type 0
IsRoomFor rs room = (i : ℕ) (r : Record) → slice_get rs i ≡ Some r → length r.key ≤ room

-- `latest_first` is an order
pub latest_first_total : IsTotalOrder latest_first
latest_first_total = on_total (λ (k : Roomy). k.0) (back_total nat_list_cmp_total)
