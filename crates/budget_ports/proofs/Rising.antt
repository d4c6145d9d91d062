-- The records that a keeper gives rise by key, and no key is empty.
use Rattle.std.proofs.Common.{◌≡◌, inl, inr, ◌<◌, Bool, true, false, List, [], ◌∷◌, map, filter, length, refl, Less, arith}
use Rattle.std.specs.Ordering.{ordering_then}
use Rattle.std.specs.List.{AllByRecursion}
use Rattle.std.specs.Cmp.{tied_itself}
use Rattle.std.proofs.lemmas.Bool.{and_parts, cases_Bool}
use Rattle.std.specs.FinMap.{FinMap, entries, entries_sorted, is_sorted}
use Rattle.std.specs.Prelude.{T}
use Rattle.budget_ports.specs.Contents.{Text, text_cmp, Place, place_cmp, is_in, of_entry, records_of_after}
use Rattle.budget_ports.specs.Keeper.{Rise}
use Rattle.budget_ports.proofs.Maps.{IsRising, equal_is}
pub use Rattle.budget_ports.proofs.Maps.{less_is}
use Rattle.budget_ports.proofs.Places.{text_total, text_same, place_total}

pub is_true : (b : Bool) → T b → b ≡ true
is_true true t = refl
is_true false t = absurd t

-- nothing is below the empty text
above_some : (after key : Text) → text_cmp after key ≡ Less → 0 < length key
above_some [] [] h = cc
above_some (x ∷ after) [] h = cc
above_some after (y ∷ key) h = omega arith

lower_all : (x y : Place) (es : List (Place × Text)) → place_cmp x y ≡ Less → AllByRecursion (λ f. place_cmp y f.0 ≡ Less) es → AllByRecursion (λ f. place_cmp x f.0 ≡ Less) es
lower_all x y [] low all = tt
lower_all x y (e ∷ es) low all = (place_total.trans x y e.0 low all.0, lower_all x y es low all.1)

pub in_order : (es : List (Place × Text)) → is_sorted place_cmp es ≡ true → IsRising place_cmp es
in_order [] h = tt
in_order (e ∷ []) h = (tt, tt)
in_order (e ∷ f ∷ es) h =
    let parts = and_parts _ _ h in
    let low = less_is _ (and_parts _ _ parts.0).0 in
    let later = in_order (f ∷ es) parts.1 in
    ((low, lower_all e.0 f.0 es low later.0), later)

above_later : (group after : Text) (p : Place) (es : List (Place × Text)) → p.0 ≡ group → AllByRecursion (λ f. place_cmp p f.0 ≡ Less) es
    → AllByRecursion (λ s. text_cmp p.1 s.key ≡ Less) (map of_entry (filter (is_in group after) es))
above_later group after p [] here up = tt
above_later group after p (e ∷ es) here up = elim (cases_Bool (is_in group after e)) [
  | inl inside ↦
      let there : e.0.0 ≡ group = text_same e.0.0 group (equal_is _ (and_parts _ _ inside).0) in
      let low : ordering_then (text_cmp group group) (text_cmp p.1 e.0.1) ≡ Less = rw (here, there) at up.0 in
      let key : text_cmp p.1 e.0.1 ≡ Less = rw (tied_itself text_total group) at low in
      rw inside (key, above_later group after p es here up.1)
  | inr outside ↦ rw outside (above_later group after p es here up.1)
]

rise_in : (group after : Text) (es : List (Place × Text)) → IsRising place_cmp es → Rise (map of_entry (filter (is_in group after) es))
rise_in group after [] up = tt
rise_in group after (e ∷ es) up = elim (cases_Bool (is_in group after e)) [
  | inl inside ↦
      let parts = and_parts _ _ inside in
      let here : e.0.0 ≡ group = text_same e.0.0 group (equal_is _ parts.0) in
      rw inside (above_some after e.0.1 (less_is _ parts.1), above_later group after e.0 es here up.0, rise_in group after es up.1)
  | inr outside ↦ rw outside (rise_in group after es up.1)
]

pub records_rise : (m : FinMap place_cmp Text) (group after : Text) → Rise (records_of_after m group after)
records_rise m group after = rise_in group after (entries m) (in_order (entries m) (is_true _ (entries_sorted m)))
