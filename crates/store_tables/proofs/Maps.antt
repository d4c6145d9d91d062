-- The map of a list of rows, by membership.
use Rattle.std.proofs.Common.{◌≡◌, ◌⊎◌, Bool, true, false, List, [], ◌∷◌, map, Option, Some, None, inl, inr, refl, sym, ap, subst, ◌∙◌, true≢false, Ordering, Less, Equal, Greater, nat_cmp}
use Rattle.std.specs.Ordering.{is_eq}
use Rattle.std.specs.Cmp.{IsTotalOrder}
use Rattle.std.proofs.lemmas.Cmp.{tied_itself}
use Rattle.std.proofs.lemmas.Bool.{cases_Bool}
use Rattle.std.specs.FinMap.{FinMap, IsAntisymmetric, from_entries, get, insert, find, get-from_entries, get-insert, same_map}
use Rattle.sqlite_rules.specs.Lists.{Has}

equal_is : (o : Ordering) → is_eq o ≡ true → o ≡ Equal
equal_is Less h = absurd (true≢false (sym h))
equal_is Equal h = refl
equal_is Greater h = absurd (true≢false (sym h))

module _ {X K V : Type 0} {R : K → K → Ordering} (total : IsTotalOrder R) (same : IsAntisymmetric R) (f : X → K) (h : X → V) where
  abbrev pub map_of : List X → FinMap R V
  map_of xs = from_entries (map (λ x. (f x, h x)) xs)

  found : (xs : List X) (x : X) → Has xs x → ((y : X) → Has xs y → f y ≡ f x → h y ≡ h x) → find R (f x) (map (λ x. (f x, h x)) xs) ≡ Some (h x)
  found [] x there once = absurd there
  found (y ∷ xs) x there once = elim (cases_Bool (is_eq (R (f x) (f y)))) [
    | inl tied ↦ rw tied (ap Some (once y (inl refl) (sym (same (f x) (f y) (equal_is _ tied)))))
    | inr apart ↦ rw apart (elim there [
      | inl here ↦ absurd (true≢false (sym (ap is_eq (tied_itself total (f x))) ∙ ap (λ z. is_eq (R (f x) (f z))) here ∙ apart))
      | inr later ↦ found xs x later (λ z k e. once z (inr k) e)
    ])
  ]

  missing : (xs : List X) (k : K) → ((y : X) → Has xs y → f y ≡ k → ⊥) → find R k (map (λ x. (f x, h x)) xs) ≡ None
  missing [] k none = refl
  missing (y ∷ xs) k none = elim (cases_Bool (is_eq (R k (f y)))) [
    | inl tied ↦ absurd (none y (inl refl) (sym (same k (f y) (equal_is _ tied))))
    | inr apart ↦ rw apart (missing xs k (λ z there e. none z (inr there) e))
  ]

  pub get_found : (xs : List X) (x : X) → Has xs x → ((y : X) → Has xs y → f y ≡ f x → h y ≡ h x) → get (map_of xs) (f x) ≡ Some (h x)
  get_found xs x there once = get-from_entries total _ (f x) ∙ found xs x there once

  pub get_missing : (xs : List X) (k : K) → ((y : X) → Has xs y → f y ≡ k → ⊥) → get (map_of xs) k ≡ None
  get_missing xs k none = get-from_entries total _ k ∙ missing xs k none

  pub looked_up : (xs : List X) (k : K) → ((x : X) × Has xs x × (f x ≡ k)) ⊎ ((x : X) → Has xs x → f x ≡ k → ⊥)
  looked_up [] k = inr (λ x there e. there)
  looked_up (y ∷ xs) k = elim (cases_Bool (is_eq (R k (f y)))) [
    | inl tied ↦ inl (y, inl refl, sym (same k (f y) (equal_is _ tied)))
    | inr apart ↦ elim (looked_up xs k) [
      | inl later ↦ inl (later.0, inr later.1, later.2)
      | inr none ↦ inr (λ x there e. elim there [
        | inl here ↦ true≢false (sym (ap is_eq (tied_itself total k)) ∙ ap (λ z. is_eq (R k z)) (sym e ∙ ap f here) ∙ apart)
        | inr later ↦ none x later e
      ])
    ]
  ]

  abbrev pub Once : List X → Type 0
  Once xs = (a b : X) → Has xs a → Has xs b → f a ≡ f b → a ≡ b

  once_at : (xs : List X) (x : X) → Once xs → Has xs x → get (map_of xs) (f x) ≡ Some (h x)
  once_at xs x once there = get_found xs x there (λ y k e. ap h (once y x k there e))

  -- one element is new, in place of those with its key, and the others stay
  pub one_changed : (xs ys : List X) (x : X) → Once xs → Once ys → Has ys x
      → ((y : X) → Has ys y → (y ≡ x) ⊎ Has xs y) → ((y : X) → Has xs y → (f y ≡ f x → ⊥) → Has ys y)
      → map_of ys ≡ insert (map_of xs) (f x) (h x)
  one_changed xs ys x once_xs once_ys there from stays = same_map total same _ _ (λ q. each q ∙ sym (get-insert total (map_of xs) (f x) (h x) q))
    where
      each : (q : K) → get (map_of ys) q ≡ Rattle.std.proofs.Common.cond (is_eq (R q (f x))) (Some (h x)) (get (map_of xs) q)
      each q = elim (cases_Bool (is_eq (R q (f x)))) [
        | inl tied ↦ rw tied (subst (λ k. get (map_of ys) k ≡ Some (h x)) (sym (same q (f x) (equal_is _ tied))) (once_at ys x once_ys there))
        | inr apart ↦ rw apart (
            let other : q ≡ f x → ⊥ = λ e. true≢false (sym (ap is_eq (tied_itself total (f x))) ∙ ap (λ k. is_eq (R k (f x))) (sym e) ∙ apart) in
            elim (looked_up xs q) as (λ _. get (map_of ys) q ≡ get (map_of xs) q) [
              | inl it ↦
                  let late = stays it.0 it.1 (λ e. other (sym it.2 ∙ e)) in
                  subst (λ k. get (map_of ys) k ≡ get (map_of xs) k) it.2 (once_at ys it.0 once_ys late ∙ sym (once_at xs it.0 once_xs it.1))
              | inr none ↦ get_missing ys q (λ y k e. elim (from y k) [
                | inl is ↦ other (sym e ∙ ap f is)
                | inr was ↦ none y was e
              ]) ∙ sym (get_missing xs q none)
            ])
      ]
