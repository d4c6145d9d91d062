-- Lists in the order of a key that their elements have.
use Rattle.std.proofs.Common.{◌≡◌, ◌≢◌, List, [], ◌∷◌, Bool, true, false, cond, None, Some, map, refl, sym, ap, ◌∙◌}
use Rattle.std.specs.Ordering.{is_eq, ordering_reverse}
use Rattle.std.specs.Cmp.{IsTotalOrder, tied_itself}
use Rattle.std.specs.List.{find, Contains, AllByRecursion}
use Rattle.std.specs.List.Sorted.{IsStrictlySortedBy}
use Rattle.std.specs.declared.cmp.Ordering.{Ordering}
use Rattle.std.specs.declared.cmp.Ordering.TheVariants.{Less, Equal, Greater}
use Rattle.field_merge.proofs.Members.{all_of, all_keys}

pub equal : (r : Ordering) → is_eq r ≡ true → r ≡ Equal
equal Less h = cc
equal Equal h = refl
equal Greater h = cc

module _ {A K : Type 0} (key : A → K) (R : K → K → Ordering) where
  -- whether an element has the key
  abbrev pub has : K → A → Bool
  has k x = is_eq (R k (key x))

  abbrev pub IsInOrder : List A → Type 0
  IsInOrder xs = IsStrictlySortedBy R (map key xs)

  -- each element has a greater key
  abbrev pub IsBelow : K → List A → Type 0
  IsBelow k xs = AllByRecursion (λ j. R k j ≡ Less) (map key xs)

  pub head : (x : A) (xs : List A) → IsInOrder (x ∷ xs) → IsBelow (key x) xs
  unfolding IsStrictlySortedBy
  head x xs s = s.0

  pub tail : (x : A) (xs : List A) → IsInOrder (x ∷ xs) → IsInOrder xs
  unfolding IsStrictlySortedBy
  tail x xs s = s.1

  pub cons : (x : A) (xs : List A) → IsBelow (key x) xs → IsInOrder xs → IsInOrder (x ∷ xs)
  unfolding IsStrictlySortedBy
  cons x xs h s = (h, s)

  pub in_order_nil : IsInOrder []
  unfolding IsStrictlySortedBy
  in_order_nil = tt

  module _ (o : IsTotalOrder R) where
    pub below_less : (j k : K) (xs : List A) → R j k ≡ Less → IsBelow k xs → IsBelow j xs
    below_less j k [] p h = tt
    below_less j k (x ∷ xs) p h = (o.trans j k (key x) p h.0, below_less j k xs p h.1)

    below_tied : (j k : K) (xs : List A) → R j k ≡ Equal → IsBelow k xs → IsBelow j xs
    below_tied j k [] p h = tt
    below_tied j k (x ∷ xs) p h = (o.congr j k (key x) p ∙ h.0, below_tied j k xs p h.1)

    find_below : (k : K) (xs : List A) → IsBelow k xs → find (has k) xs ≡ None
    find_below k [] h = refl
    find_below k (x ∷ xs) h = ap (λ r. cond (is_eq r) (Some x) (find (has k) xs)) h.0 ∙ find_below k xs h.1

    find_first : (x : A) (xs : List A) → find (has (key x)) (x ∷ xs) ≡ Some x
    find_first x xs = ap (λ r. cond (is_eq r) (Some x) (find (has (key x)) xs)) (tied_itself o (key x))

    later_found : (x : A) (xs ys : List A) → AllByRecursion (λ y. R (key x) (key y) ≡ Less) ys → AllByRecursion (λ y. find (has (key y)) xs ≡ Some y) ys → AllByRecursion (λ y. find (has (key y)) (x ∷ xs) ≡ Some y) ys
    later_found x xs [] h f = tt
    later_found x xs (y ∷ ys) h f =
        (ap (λ r. cond (is_eq r) (Some x) (find (has (key y)) xs)) (o.antisymm (key y) (key x) ∙ ap ordering_reverse h.0) ∙ f.0, later_found x xs ys h.1 f.1)

    each_found : (xs : List A) → IsInOrder xs → AllByRecursion (λ y. find (has (key y)) xs ≡ Some y) xs
    each_found [] s = tt
    each_found (x ∷ xs) s =
        let below = all_keys key (λ j. R (key x) j ≡ Less) xs (head x xs s) in
        (find_first x xs, later_found x xs xs below (each_found xs (tail x xs s)))

    -- a member is found by its key
    pub found_by_key : (xs : List A) → IsInOrder xs → (x : A) → Contains xs x → find (has (key x)) xs ≡ Some x
    found_by_key xs s x c = all_of (λ y. find (has (key y)) xs ≡ Some y) xs (each_found xs s) x c

    -- two lists in which each key finds the same are the same
    not_none : (x : A) → Some x ≢ None
    not_none x h = cc

    less_missed : (x y : A) (xs ys : List A) → R (key x) (key y) ≡ Less → IsBelow (key y) ys → find (has (key x)) (x ∷ xs) ≢ find (has (key x)) (y ∷ ys)
    less_missed x y xs ys p h is = not_none x (sym (find_first x xs) ∙ is ∙ find_below (key x) (y ∷ ys) (p, below_less (key x) (key y) ys p h))

    tails : (k j : K) (x y : A) (xs ys : List A) → R k (key x) ≡ R k j → R k (key y) ≡ R k j → IsBelow j xs → IsBelow j ys → find (has k) (x ∷ xs) ≡ find (has k) (y ∷ ys) → find (has k) xs ≡ find (has k) ys
    tails k j x y xs ys p q g h e =
        let at : cond (is_eq (R k j)) (Some x) (find (has k) xs) ≡ cond (is_eq (R k j)) (Some y) (find (has k) ys) = sym (ap (λ r. cond (is_eq r) (Some x) (find (has k) xs)) p) ∙ e ∙ ap (λ r. cond (is_eq r) (Some y) (find (has k) ys)) q in
        elim (is_eq (R k j)) as (λ b. is_eq (R k j) ≡ b → cond b (Some x) (find (has k) xs) ≡ cond b (Some y) (find (has k) ys) → find (has k) xs ≡ find (has k) ys) [
          | true ↦ λ t _. find_below k xs (below_tied k j xs (equal _ t) g) ∙ sym (find_below k ys (below_tied k j ys (equal _ t) h))
          | false ↦ λ t is. is
        ] refl at

    pub same : (xs ys : List A) → IsInOrder xs → IsInOrder ys → ((k : K) → find (has k) xs ≡ find (has k) ys) → xs ≡ ys
    same [] [] g h is = refl
    same [] (y ∷ ys) g h is = absurd (not_none y (sym (find_first y ys) ∙ sym (is (key y))))
    same (x ∷ xs) [] g h is = absurd (not_none x (sym (find_first x xs) ∙ is (key x)))
    same (x ∷ xs) (y ∷ ys) g h is =
        elim (R (key x) (key y)) as (λ r. R (key x) (key y) ≡ r → x ∷ xs ≡ y ∷ ys) [
          | Less ↦ λ p. absurd (less_missed x y xs ys p (head y ys h) (is (key x)))
          | Greater ↦ λ p. absurd (less_missed y x ys xs (o.antisymm (key y) (key x) ∙ ap ordering_reverse p) (head x xs g) (sym (is (key y))))
          | Equal ↦ λ p.
              let first : Some x ≡ Some y = sym (find_first x xs) ∙ is (key x) ∙ ap (λ r. cond (is_eq r) (Some y) (find (has (key x)) ys)) p in
              let one : x ≡ y = cc in
              let at_y : R (key y) (key x) ≡ Equal = o.antisymm (key y) (key x) ∙ ap ordering_reverse p in
              let below_y : IsBelow (key y) xs = below_tied (key y) (key x) xs at_y (head x xs g) in
              let rest : xs ≡ ys = same xs ys (tail x xs g) (tail y ys h) (λ k. tails k (key y) x y xs ys (ap (λ z. R k (key z)) one) refl below_y (head y ys h) (is k)) in
              λ i. one i ∷ rest i
        ] refl
