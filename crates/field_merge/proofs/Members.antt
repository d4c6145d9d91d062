-- The members of a list, and the first one that passes a test.
use Rattle.std.proofs.Common.{◌≡◌, ◌≢◌, suc, List, [], ◌∷◌, Bool, true, false, ◌||◌, cond, Option, None, Some, map, refl, ◌∙◌, subst, arith}
use Rattle.std.specs.Option.{is_some, option_or}
use Rattle.std.specs.List.{find, list_any, Contains, AllByRecursion}
use Rattle.std.proofs.lemmas.List.Elements.{All-contains, All-from_recursion}

module _ {A : Type 0} where
  pub here : (x : A) (xs : List A) → Contains (x ∷ xs) x
  here x xs = (0, omega arith, refl)

  pub there : (x : A) (xs : List A) (y : A) → Contains xs y → Contains (x ∷ xs) y
  there x xs y h = (suc h.0, omega (arith, h.1), h.2)

  pub all_of : (P : A → Type 0) (xs : List A) → AllByRecursion P xs → (x : A) → Contains xs x → P x
  all_of P xs h x c = All-contains P xs x (All-from_recursion P xs h) c

  pub all_from : (P : A → Type 0) (xs : List A) → ((x : A) → Contains xs x → P x) → AllByRecursion P xs
  all_from P [] h = tt
  all_from P (x ∷ xs) h = (h x (here x xs), all_from P xs (λ y c. h y (there x xs y c)))

  pub all_weaker : (P Q : A → Type 0) → ((x : A) → P x → Q x) → (xs : List A) → AllByRecursion P xs → AllByRecursion Q xs
  all_weaker P Q f [] h = tt
  all_weaker P Q f (x ∷ xs) h = (f x h.0, all_weaker P Q f xs h.1)

  -- what holds of each key holds of the key of each element
  pub all_keys : {K : Type 0} (key : A → K) (P : K → Type 0) (xs : List A) → AllByRecursion P (map key xs) → AllByRecursion (λ x. P (key x)) xs
  all_keys key P [] h = tt
  all_keys key P (x ∷ xs) h = (h.0, all_keys key P xs h.1)

  pub is_some-find : (t : A → Bool) (xs : List A) → is_some (find t xs) ≡ list_any t xs
  is_some-find t [] = refl
  is_some-find t (x ∷ xs) = elim (t x) as (λ b. is_some (cond b (Some x) (find t xs)) ≡ (b || list_any t xs)) [ true ↦ refl | false ↦ is_some-find t xs ]

  pub none : (o : Option A) → is_some o ≡ false → o ≡ None
  none None h = refl
  none (Some x) h = cc

  pub none_from_any : (t : A → Bool) (xs : List A) → list_any t xs ≡ false → find t xs ≡ None
  none_from_any t xs h = none (find t xs) (is_some-find t xs ∙ h)

  -- a first one that is not there: the first element fails, and the others have none
  pub missed : (b : Bool) (x : A) (o : Option A) → cond b (Some x) o ≡ None → (b ≡ false) × (o ≡ None)
  missed true x o h = cc
  missed false x o h = (refl, h)

  pub found_in : (t : A → Bool) (xs : List A) (x : A) → find t xs ≡ Some x → Contains xs x × (t x ≡ true)
  found_in t [] x h = cc
  found_in t (y ∷ ys) x h =
      elim (t y) as (λ b. t y ≡ b → cond b (Some y) (find t ys) ≡ Some x → Contains (y ∷ ys) x × (t x ≡ true)) [
        | true ↦ λ p e. let same : y ≡ x = cc in subst (λ (z : A). Contains (y ∷ ys) z × (t z ≡ true)) same (here y ys, p)
        | false ↦ λ p e. let rest = found_in t ys x e in (there y ys x rest.0, rest.1)
      ] refl h

  none_passes : (t : A → Bool) (xs : List A) → find t xs ≡ None → AllByRecursion (λ y. t y ≡ false) xs
  none_passes t [] h = tt
  none_passes t (x ∷ xs) h = let m = missed (t x) x (find t xs) h in (m.0, none_passes t xs m.1)

  -- where a member passes, a first one is found
  pub some_passes : (t : A → Bool) (xs : List A) (x : A) → Contains xs x → t x ≡ true → find t xs ≢ None
  some_passes t xs x c p h =
      let fails : AllByRecursion (λ y. t y ≡ false) xs = none_passes t xs h in
      let f : t x ≡ false = all_of (λ y. t y ≡ false) xs fails x c in
      cc

  pub or_none : (o : Option A) → o ≡ option_or o None
  or_none None = refl
  or_none (Some x) = refl

  -- one that is there where it is asked for
  pub there_already : (b : Bool) (o : Option A) (x : A) → (b ≡ true → is_some o ≡ true) → o ≡ option_or o (cond b (Some x) None)
  there_already true None x h = let no : false ≡ true = h refl in cc
  there_already true (Some y) x h = refl
  there_already false o x h = or_none o

  -- one that is new, or is there already
  pub new_or_there : (b : Bool) (x : A) (o : Option A) → (b ≡ true → o ≡ None) → cond b (Some x) o ≡ option_or o (cond b (Some x) None)
  new_or_there true x o h = rw (h refl) refl
  new_or_there false x o h = or_none o

  pub or_assoc : (o : Option A) (b : Bool) (x : A) (p : Option A) → option_or (option_or o (cond b (Some x) None)) p ≡ option_or o (cond b (Some x) p)
  or_assoc None true x p = refl
  or_assoc None false x p = refl
  or_assoc (Some y) b x p = refl
