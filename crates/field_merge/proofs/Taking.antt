-- A message is taken in, and the later of two of a field stays.
use Rattle.std.proofs.Common.{◌≡◌, ◌⊎◌, inl, inr, ℕ, zero, suc, ◌<◌, length, arith, List, [], ◌∷◌, ◌++◌, Bool, true, false, cond, refl, sym, ap, ◌∙◌, subst, slice_set, slice_index_or}
use Rattle.std.specs.Ordering.{is_lt, ordering_reverse}
use Rattle.std.specs.Cmp.{tied_itself}
use Rattle.std.specs.List.{Contains}
use Rattle.std.specs.declared.cmp.Ordering.{Ordering}
use Rattle.std.specs.declared.cmp.Ordering.TheVariants.{Less, Equal, Greater}
use Rattle.std.proofs.lemmas.List.Elements.{Contains-append_left, Contains-push, Contains-push_cases}
use Rattle.hybrid_clock.specs.Order.{stamp_cmp}
use Rattle.field_merge.specs.declared.message.Message.{Message}
use Rattle.field_merge.specs.Latest.{HasLatest, later}
use Rattle.field_merge.proofs.Members.{here, there}
use Rattle.field_merge.proofs.Orders.{stamps_total}

-- what stands in a list in which one was put at a place
set_some : (xs : List Message) (i : ℕ) (y z : Message) → Contains (slice_set xs i y) z → Contains xs z ⊎ (y ≡ z)
set_some [] i y z (k, h, is) = absurd (omega (arith, h))
set_some (x ∷ xs) zero y z (zero, h, is) = inr is
set_some (x ∷ xs) zero y z (suc k, h, is) = inl (suc k, h, is)
set_some (x ∷ xs) (suc i) y z (zero, h, is) = inl (subst (λ (w : Message). Contains (x ∷ xs) w) is (here x xs))
set_some (x ∷ xs) (suc i) y z (suc k, h, is) = elim (set_some xs i y z (k, omega (arith, h), is)) [
  | inl c ↦ inl (there x xs z c)
  | inr e ↦ inr e
]

set_kept : (xs : List Message) (i : ℕ) (y z : Message) → Contains xs z → Contains (slice_set xs i y) z ⊎ (slice_index_or xs i z ≡ z)
set_kept [] i y z (k, h, is) = absurd (omega (arith, h))
set_kept (x ∷ xs) zero y z (zero, h, is) = inr is
set_kept (x ∷ xs) zero y z (suc k, h, is) = inl (suc k, h, is)
set_kept (x ∷ xs) (suc i) y z (zero, h, is) = inl (subst (λ (w : Message). Contains (x ∷ slice_set xs i y) w) is (here x (slice_set xs i y)))
set_kept (x ∷ xs) (suc i) y z (suc k, h, is) = elim (set_kept xs i y z (k, omega (arith, h), is)) [
  | inl c ↦ inl (there x (slice_set xs i y) z c)
  | inr e ↦ inr e
]

set_there : (xs : List Message) (i : ℕ) (y : Message) → i < length xs → Contains (slice_set xs i y) y
set_there [] i y h = absurd (omega (arith, h))
set_there (x ∷ xs) zero y h = here y xs
set_there (x ∷ xs) (suc i) y h = there x (slice_set xs i y) y (set_there xs i y (omega (arith, h)))

-- no message is earlier than itself
own : (m : Message) → is_lt (stamp_cmp m.stamp m.stamp) ≡ false
own m = ap is_lt (tied_itself stamps_total m.stamp)

not_both : (r : Ordering) → is_lt r ≡ true → is_lt (ordering_reverse r) ≡ false
not_both Less h = refl
not_both Equal h = refl
not_both Greater h = cc

-- neither is later than the later of two
choice : (e m : Message) (b : Bool) → is_lt (stamp_cmp e.stamp m.stamp) ≡ b → (is_lt (stamp_cmp (cond b m e).stamp e.stamp) ≡ false) × (is_lt (stamp_cmp (cond b m e).stamp m.stamp) ≡ false)
choice e m true h = (ap is_lt (stamps_total.antisymm m.stamp e.stamp) ∙ not_both (stamp_cmp e.stamp m.stamp) h, own m)
choice e m false h = (own e, h)

chosen : (e m : Message) (b : Bool) → e.field ≡ m.field → (cond b m e).field ≡ m.field
chosen e m true h = refl
chosen e m false h = h

-- the element at a place, whatever is told where there is none
same_at : (xs : List Message) (i : ℕ) (y z : Message) → i < length xs → slice_index_or xs i y ≡ slice_index_or xs i z
same_at [] i y z h = absurd (omega (arith, h))
same_at (x ∷ xs) zero y z h = refl
same_at (x ∷ xs) (suc i) y z h = same_at xs i y z (omega (arith, h))

at_place : (xs : List Message) (i : ℕ) (y : Message) → i < length xs → Contains xs (slice_index_or xs i y)
at_place xs i y h = (i, h, same_at xs i (slice_index_or xs i y) y h)

one_of : (old : List Message) (e m : Message) (b : Bool) → Contains old e → Contains (old ++ m ∷ []) (cond b m e)
one_of old e m true c = Contains-push old m
one_of old e m false c = Contains-append_left old (m ∷ []) e c

-- the later one of a message at a place and another one of its field stays there
put_over : (old new : List Message) (i : ℕ) (m : Message) → i < length old → (slice_index_or old i m).field ≡ m.field → new ≡ slice_set old i (later (slice_index_or old i m) m) → HasLatest (old ++ m ∷ []) new
put_over old new i m h field is =
    let e : Message = slice_index_or old i m in
    let b : Bool = is_lt (stamp_cmp e.stamp m.stamp) in
    let y : Message = later e m in
    let late = choice e m b refl in
    let alike : y.field ≡ m.field = chosen e m b field in
    let stands : Contains new y = subst (λ (xs : List Message). Contains xs y) (sym is) (set_there old i y h) in
    record {
      some = λ z c. elim (set_some old i y z (subst (λ (xs : List Message). Contains xs z) is c)) [
        | inl there ↦ Contains-append_left old (m ∷ []) z there
        | inr one ↦ subst (λ (w : Message). Contains (old ++ m ∷ []) w) one (one_of old e m b (at_place old i m h))
      ];
      covers = λ z c. elim (Contains-push_cases old m z c) [
        | inl there ↦ elim (set_kept old i y z there) [
          | inl stays ↦ (z, (subst (λ (xs : List Message). Contains xs z) (sym is) stays, refl, own z))
          | inr at ↦
              let one : e ≡ z = same_at old i m z h ∙ at in
              (y, (stands, alike ∙ sym field ∙ ap (λ (w : Message). w.field) one, subst (λ (w : Message). is_lt (stamp_cmp y.stamp w.stamp) ≡ false) one late.0))
        ]
        | inr one ↦ (y, (stands, alike ∙ ap (λ (w : Message). w.field) one, subst (λ (w : Message). is_lt (stamp_cmp y.stamp w.stamp) ≡ false) one late.1))
      ];
    }

-- the same, as the code finds it
pub put_over_there : {old slice : List Message} {i : ℕ} {e kept : Message} (m : Message) → slice ≡ old → i < length slice → ((x : Message) → (slice_index_or slice i x).field ≡ m.field)
    → e ≡ slice_index_or old i e → kept ≡ later e m → HasLatest (old ++ m ∷ []) (slice_set old i kept)
put_over_there {old} {slice} {i} {e} {kept} m same h field at is =
    let there : i < length old = subst (λ (xs : List Message). i < length xs) same h in
    put_over old (slice_set old i kept) i m there (subst (λ (xs : List Message). (slice_index_or xs i m).field ≡ m.field) same (field m))
    (ap (slice_set old i) (is ∙ ap (λ (w : Message). later w m) (at ∙ same_at old i e m there)))

pub put_behind : (old new : List Message) (m : Message) → new ≡ old ++ m ∷ [] → HasLatest (old ++ m ∷ []) new
put_behind old new m is = record {
  some = λ z c. subst (λ (xs : List Message). Contains xs z) is c;
  covers = λ z c. (z, (subst (λ (xs : List Message). Contains xs z) (sym is) c, refl, own z));
}
