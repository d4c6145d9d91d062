-- Fields ordered by a number that is made of their names.
use Rattle.std.specs.Prelude.{◌∷◌, ℕ, []}
use Rattle.std.specs.Cmp.{IsTotalOrder}
use Rattle.std.specs.Hash.FoldHasher as folding
use Rattle.std.specs.List.{fold}
use Rattle.std.specs.Ordering.{nat_cmp, ordering_then}
use Rattle.std.specs.declared.cmp.Ordering.{Ordering}
use Rattle.std.proofs.lemmas.Cmp.{nat_cmp_total, nat_list_cmp_total, on_total, then_total}
use Rattle.field_values.specs.Names.{FieldNames, names_cmp}

-- the number of a field
unfoldable pub names_hash : FieldNames → ℕ
names_hash f = folding.finish (fold folding.write folding.initial (f.dataset ∷ f.row ∷ f.column ∷ []))

-- fields by their numbers, and those of one number by their names
abbrev pub hashed_cmp : FieldNames → FieldNames → Ordering
hashed_cmp f g = ordering_then (nat_cmp (names_hash f) (names_hash g)) (names_cmp f g)

-- it is an order
pub hashed_total : IsTotalOrder hashed_cmp
hashed_total =
    then_total (on_total names_hash nat_cmp_total)
    (then_total (on_total (λ (f : FieldNames). f.dataset) nat_list_cmp_total)
    (then_total (on_total (λ (f : FieldNames). f.row) nat_list_cmp_total) (on_total (λ (f : FieldNames). f.column) nat_list_cmp_total)))
