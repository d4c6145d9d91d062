-- Sorted by field, and those of one field from the latest on, messages of which the first of each field is kept.
use Rattle.std.proofs.Common.{◌≡◌, ℕ, zero, suc, ◌+◌, get_or, List, [], ◌∷◌, Bool, true, false, cond, ◌⊎◌, inl, inr, map, refl, sym, ap, ◌∙◌, subst, arith}
use Rattle.std.specs.Ordering.{is_lt, ordering_then}
use Rattle.std.specs.Cmp.{IsTotalOrder, tied_itself}
use Rattle.std.specs.List.{AllByRecursion, Contains, dedup, dedup_from}
use Rattle.std.specs.List.Sorted.{IsPermutation, IsSorted, IsStrictlySortedBy}
use Rattle.std.specs.declared.cmp.Ordering.{Ordering}
use Rattle.std.specs.declared.cmp.Ordering.TheVariants.{Less, Equal, Greater}
use Rattle.std.proofs.lemmas.Cmp.{on_total}
use Rattle.std.proofs.lemmas.List.Kept.{Contains-from_dedup, IsStrictlySortedBy-dedup}
use Rattle.std.proofs.lemmas.List.Sorted.{Contains-permutation, IsPermutation-sym, ranks_by, sorted_far}
use Rattle.field_values.specs.Names.{names_cmp, names_eq}
use Rattle.hybrid_clock.specs.Order.{stamp_cmp}
use Rattle.field_merge.specs.declared.message.Message.{Message}
use Rattle.field_merge.specs.Log.{IsByField, by_field}
use Rattle.field_merge.specs.Latest.{KeepsLatest, latest_first, latest_first_total}
use Rattle.field_merge.proofs.Fields.{field_of}
use Rattle.field_merge.proofs.Members.{all_from, here, there}
use Rattle.field_merge.proofs.Ordered.{equal}
use Rattle.field_merge.proofs.Orders.{names_alike, names_exact, names_total, stamps_total}

abbrev pub same_field : Message → Message → Bool
same_field m n = names_eq m.field n.field

fields_total : IsTotalOrder by_field
fields_total = on_total field_of names_total

-- ---- by field alone
first_decides : (r s : Ordering) → is_lt (ordering_then r s) ≡ false → is_lt r ≡ false
first_decides Less s h = h
first_decides Equal s h = refl
first_decides Greater s h = refl

by_field_too : (xs : List Message) → IsSorted latest_first xs → IsSorted by_field xs
by_field_too xs up k d low high = first_decides _ _ (up k d low high)

below_map : (m : Message) (xs : List Message) → AllByRecursion (λ n. by_field m n ≡ Less) xs → AllByRecursion (λ f. names_cmp m.field f ≡ Less) (map (λ (n : Message). n.field) xs)
below_map m [] h = tt
below_map m (x ∷ xs) h = (h.0, below_map m xs h.1)

mapped : (xs : List Message) → IsStrictlySortedBy by_field xs → IsByField xs
unfolding IsStrictlySortedBy
mapped [] h = tt
mapped (x ∷ xs) h = (below_map x xs h.0, mapped xs h.1)

-- ---- none of the field is later than the first
-- each is not before m
abbrev Follow : Message → List Message → Type 0
Follow m xs = AllByRecursion (λ n. is_lt (latest_first n m) ≡ false) xs

-- each is followed by all later ones
abbrev Falls : List Message → Type 0
Falls [] = Unit {0}
Falls (x ∷ xs) = Follow x xs × Falls xs

sorted_rest : (x : Message) (xs : List Message) → IsSorted latest_first (x ∷ xs) → IsSorted latest_first xs
sorted_rest x xs up k d low high =
    let next : suc k + 1 ≡ suc (k + 1) = omega arith in
    subst (λ (j : ℕ). is_lt (latest_first (get_or (x ∷ xs) j d) (get_or xs k d)) ≡ false) next (up (suc k) d (omega arith) (omega arith))

falls : (xs : List Message) → IsSorted latest_first xs → Falls xs
falls [] up = tt
falls (x ∷ xs) up = (
  all_from (λ (n : Message). is_lt (latest_first n x) ≡ false) xs
      (λ y c. subst (λ (z : Message). is_lt (latest_first z x) ≡ false) c.2
      (sorted_far (λ m n. is_lt (latest_first m n)) (ranks_by latest_first_total (λ (m : Message). m)) (x ∷ xs) up 0 (suc c.0) y (omega arith) (omega (arith, c.1)))),
  falls xs (sorted_rest x xs up),
)

head_or_rest : (k : Message) (xs : List Message) (z : Message) → Contains (k ∷ xs) z → (k ≡ z) ⊎ Contains xs z
head_or_rest k xs z (zero, h, is) = inl is
head_or_rest k xs z (suc i, h, is) = inr (i, omega (arith, h), is)

-- one of the messages is of z's field, and not older
abbrev Covers : List Message → Message → Type 0
Covers ns z = (n : Message) × (Contains ns n × (n.field ≡ z.field) × (is_lt (stamp_cmp n.stamp z.stamp) ≡ false))

first_stays : (k : Message) (xs : List Message) → Contains (dedup_from same_field k xs) k
first_stays k [] = here k []
first_stays k (x ∷ xs) =
    elim (same_field x k) as (λ b. Contains (cond b (dedup_from same_field k xs) (k ∷ dedup_from same_field x xs)) k) [
      | true ↦ first_stays k xs
      | false ↦ here k (dedup_from same_field x xs)
    ]

by_itself : (ns : List Message) (k z : Message) → Contains ns k → k ≡ z → Covers ns z
by_itself ns k z c is = (k, (c, ap (λ (m : Message). m.field) is, subst (λ (m : Message). is_lt (stamp_cmp k.stamp m.stamp) ≡ false) is (ap is_lt (tied_itself stamps_total k.stamp))))

-- a message of the first one's field, that follows it, isn't later
by_first : (ns : List Message) (k x z : Message) → Contains ns k → same_field x k ≡ true → is_lt (latest_first x k) ≡ false → x ≡ z → Covers ns z
by_first ns k x z c t f is =
    let tied : names_cmp x.field k.field ≡ Equal = equal _ (names_alike x.field k.field ∙ t) in
    subst (λ (m : Message). Covers ns m) is
    (k, (c, sym (names_exact x.field k.field tied), sym (ap (λ r. is_lt (ordering_then r (stamp_cmp k.stamp x.stamp))) tied) ∙ f))

covers_from : (k : Message) (xs : List Message) → Follow k xs → Falls xs → (z : Message) → Contains (k ∷ xs) z → Covers (dedup_from same_field k xs) z
covers_from k [] f g z c =
    elim (head_or_rest k [] z c) [
      | inl is ↦ by_itself (k ∷ []) k z (here k []) is
      | inr more ↦ absurd (omega (arith, more.1))
    ]
covers_from k (x ∷ xs) f g z c =
    elim (same_field x k) as (λ b. same_field x k ≡ b → Covers (cond b (dedup_from same_field k xs) (k ∷ dedup_from same_field x xs)) z) [
      | true ↦ λ t. elim (head_or_rest k (x ∷ xs) z c) [
        | inl is ↦ by_itself (dedup_from same_field k xs) k z (first_stays k xs) is
        | inr more ↦ elim (head_or_rest x xs z more) [
          | inl is ↦ by_first (dedup_from same_field k xs) k x z (first_stays k xs) t f.0 is
          | inr rest ↦ covers_from k xs f.1 g.1 z (there k xs z rest)
        ]
      ]
      | false ↦ λ t. elim (head_or_rest k (x ∷ xs) z c) [
        | inl is ↦ by_itself (k ∷ dedup_from same_field x xs) k z (here k (dedup_from same_field x xs)) is
        | inr more ↦
            let y = covers_from x xs g.0 g.1 z more in
            (y.0, (there k (dedup_from same_field x xs) y.0 y.1.0, y.1.1, y.1.2))
      ]
    ] refl

covers_all : (xs : List Message) → Falls xs → (z : Message) → Contains xs z → Covers (dedup same_field xs) z
covers_all [] g z c = absurd (omega (arith, c.1))
covers_all (x ∷ xs) g z c = covers_from x xs g.0 g.1 z c

pub keeps_latest : (old sorted new : List Message) → IsPermutation old sorted → IsSorted latest_first sorted → new ≡ dedup same_field sorted → KeepsLatest old new
keeps_latest old sorted new moved up is =
    subst (λ (ns : List Message). KeepsLatest old ns) (sym is)
    (record {
      in_order = mapped _ (IsStrictlySortedBy-dedup fields_total (λ m n. sym (names_alike m.field n.field)) sorted (by_field_too sorted up));
      has = record {
        some = λ m c. Contains-permutation sorted old m (IsPermutation-sym old sorted moved) (Contains-from_dedup same_field sorted m c);
        covers = λ m c. covers_all sorted (falls sorted up) m (Contains-permutation old sorted m moved c);
      };
    })
