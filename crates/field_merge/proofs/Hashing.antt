-- Fields ordered by their numbers are told apart as by their names.
use Rattle.std.proofs.Common.{◌≡◌, false, refl, ap, subst}
use Rattle.std.specs.Ordering.{is_eq, nat_cmp, ordering_then}
use Rattle.std.specs.Cmp.{tied_itself}
use Rattle.std.specs.declared.cmp.Ordering.{Ordering}
use Rattle.std.specs.declared.cmp.Ordering.TheVariants.{Less, Equal, Greater}
use Rattle.std.proofs.lemmas.Cmp.{nat_cmp_total}
use Rattle.field_values.specs.Names.{FieldNames, names_cmp}
use Rattle.field_merge.specs.Hashed.{hashed_cmp, names_hash}
use Rattle.field_merge.proofs.Orders.{names_exact}

not_less : (r : Ordering) → is_eq (ordering_then r Less) ≡ false
not_less Less = refl
not_less Equal = refl
not_less Greater = refl

not_greater : (r : Ordering) → is_eq (ordering_then r Greater) ≡ false
not_greater Less = refl
not_greater Equal = refl
not_greater Greater = refl

pub same_place : (f g : FieldNames) → is_eq (hashed_cmp f g) ≡ is_eq (names_cmp f g)
same_place f g =
    elim (names_cmp f g) as (λ o. names_cmp f g ≡ o → is_eq (ordering_then (nat_cmp (names_hash f) (names_hash g)) o) ≡ is_eq o) [
      | Less ↦ λ e. not_less (nat_cmp (names_hash f) (names_hash g))
      | Equal ↦ λ e.
          let alike : nat_cmp (names_hash f) (names_hash g) ≡ Equal = subst (λ (h : FieldNames). nat_cmp (names_hash f) (names_hash h) ≡ Equal) (names_exact f g e) (tied_itself nat_cmp_total (names_hash f)) in
          ap (λ r. is_eq (ordering_then r Equal)) alike
      | Greater ↦ λ e. not_greater (nat_cmp (names_hash f) (names_hash g))
    ] refl

second_equal : (r s : Ordering) → ordering_then r s ≡ Equal → s ≡ Equal
second_equal Less s h = cc
second_equal Equal s h = h
second_equal Greater s h = cc

-- equal ones are the same
pub hashed_exact : (f g : FieldNames) → hashed_cmp f g ≡ Equal → f ≡ g
hashed_exact f g h = names_exact f g (second_equal (nat_cmp (names_hash f) (names_hash g)) (names_cmp f g) h)
