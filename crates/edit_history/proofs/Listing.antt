-- Lists of which each field stands once.
use Rattle.std.proofs.Common.{◌≡◌, ℕ, suc, ◌+◌, ◌<◌, ◌≤◌, Bool, true, false, cond, List, [], ◌∷◌, ◌++◌, length, take, get_or, refl, ap, sym, ◌∙◌, subst, arith}
use Rattle.std.proofs.lemmas.List.{take_more}
use Rattle.std.specs.Prelude.{◌||◌, not, map, filter}
use Rattle.std.specs.List.{list_any, AllByRecursion}
use Rattle.field_values.specs.Names.{FieldNames, names_eq}
use Rattle.edit_history.specs.Undo.{first_of_each}
use Rattle.edit_history.proofs.Basics.{bool_cases, true_false, or_left, not_true, same}

-- one of the elements is of the field
abbrev pub wrote : {X : Type 0} → (X → FieldNames) → List X → FieldNames → Bool
wrote field xs g = list_any (λ x. names_eq (field x) g) xs

module _ {X : Type 0} where
  any-filter : (p q : X → Bool) (xs : List X) → ((x : X) → p x ≡ true → q x ≡ true) → list_any p (filter q xs) ≡ list_any p xs
  any-filter p q [] h = refl
  any-filter p q (x ∷ xs) h = bool_cases (q x)
      (λ t. ap (λ b. list_any p (cond b (x ∷ filter q xs) (filter q xs))) t ∙ ap (λ b. p x || b) (any-filter p q xs h))
      (λ f. ap (λ b. list_any p (cond b (x ∷ filter q xs) (filter q xs))) f ∙ any-filter p q xs h
      ∙ sym (ap (λ b. b || list_any p xs) (bool_cases (p x) (λ t. true_false (q x) (h x t) f) (λ e. e))))

  -- each field is still there
  pub first_wrote : (field : X → FieldNames) (xs : List X) (g : FieldNames) → wrote field (first_of_each field xs) g ≡ wrote field xs g
  first_wrote field [] g = refl
  first_wrote field (x ∷ xs) g = bool_cases (names_eq (field x) g)
      (λ t. or_left _ _ t ∙ sym (or_left _ _ t))
      (λ f. ap (λ b. names_eq (field x) g || b) (any-filter (λ y. names_eq (field y) g) (λ y. not (names_eq (field x) (field y))) (first_of_each field xs)
      (λ y e. not_true _ (bool_cases (names_eq (field x) (field y))
      (λ t. true_false (names_eq (field x) g) (subst (λ (h : FieldNames). names_eq (field x) h ≡ true) (same (field y) g e) t) f)
      (λ d. d)))
      ∙ first_wrote field xs g))

  all_filter : (P : X → Type 0) (q : X → Bool) (xs : List X) → AllByRecursion P xs → AllByRecursion P (filter q xs)
  all_filter P q [] h = h
  all_filter P q (x ∷ xs) h =
      elim (q x) as (λ b. AllByRecursion P (cond b (x ∷ filter q xs) (filter q xs))) [ true ↦ (h.0, all_filter P q xs h.1) | false ↦ all_filter P q xs h.1 ]

  -- what holds of all holds of the first of each
  pub all_first : (P : X → Type 0) (field : X → FieldNames) (xs : List X) → AllByRecursion P xs → AllByRecursion P (first_of_each field xs)
  all_first P field [] h = h
  all_first P field (x ∷ xs) h = (h.0, all_filter P (λ y. not (names_eq (field x) (field y))) (first_of_each field xs) (all_first P field xs h.1))

  filter_few : (q : X → Bool) (xs : List X) → length (filter q xs) ≤ length xs
  filter_few q [] = omega arith
  filter_few q (x ∷ xs) =
      let rest = filter_few q xs in
      elim (q x) as (λ b. length (cond b (x ∷ filter q xs) (filter q xs)) ≤ length (x ∷ xs)) [ true ↦ omega (arith, rest) | false ↦ omega (arith, rest) ]

  pub first_few : (field : X → FieldNames) (xs : List X) → length (first_of_each field xs) ≤ length xs
  first_few field [] = omega arith
  first_few field (x ∷ xs) =
      let one = filter_few (λ y. not (names_eq (field x) (field y))) (first_of_each field xs) in
      let rest = first_few field xs in
      omega (arith, one, rest)

  pub first_some : (field : X → FieldNames) (xs : List X) → 0 < length xs → 0 < length (first_of_each field xs)
  first_some field [] h = h
  first_some field (x ∷ xs) h = omega arith

  filter_plus : (q : X → Bool) (a b : List X) → filter q (a ++ b) ≡ filter q a ++ filter q b
  filter_plus q [] b = refl
  filter_plus q (x ∷ a) b = by (q x) (filter_plus q a b)
    where
      by : (t : Bool) → filter q (a ++ b) ≡ filter q a ++ filter q b → cond t (x ∷ filter q (a ++ b)) (filter q (a ++ b)) ≡ cond t (x ∷ filter q a) (filter q a) ++ filter q b
      by true h = ap (λ t. x ∷ t) h
      by false h = h

  -- one more element
  pub first_snoc : (field : X → FieldNames) (xs : List X) (x : X) → first_of_each field (xs ++ x ∷ []) ≡ first_of_each field xs ++ cond (wrote field xs (field x)) [] (x ∷ [])
  first_snoc field [] x = refl
  first_snoc field (y ∷ ys) x =
      ap (λ t. y ∷ filter (λ z. not (names_eq (field y) (field z))) t) (first_snoc field ys x)
      ∙ ap (λ t. y ∷ t) (filter_plus (λ z. not (names_eq (field y) (field z))) (first_of_each field ys) (cond (wrote field ys (field x)) [] (x ∷ [])))
      ∙ ap (λ t. y ∷ (filter (λ z. not (names_eq (field y) (field z))) (first_of_each field ys) ++ t)) (by (names_eq (field y) (field x)) refl (wrote field ys (field x)))
    where
      by : (b : Bool) → names_eq (field y) (field x) ≡ b → (c : Bool) → filter (λ z. not (names_eq (field y) (field z))) (cond c [] (x ∷ [])) ≡ cond (b || c) [] (x ∷ [])
      by true h true = refl
      by true h false = ap (λ b. cond (not b) (x ∷ []) []) h
      by false h true = refl
      by false h false = ap (λ b. cond (not b) (x ∷ []) []) h

pub map_plus : {X Y : Type 0} (f : X → Y) (a b : List X) → map f (a ++ b) ≡ map f a ++ map f b
map_plus f [] b = refl
map_plus f (x ∷ a) b = ap (λ t. f x ∷ t) (map_plus f a b)

pub any_map : {X Y : Type 0} (p : Y → Bool) (f : X → Y) (xs : List X) → list_any p (map f xs) ≡ list_any (λ x. p (f x)) xs
any_map p f [] = refl
any_map p f (x ∷ xs) = ap (λ b. p (f x) || b) (any_map p f xs)

pub map_length : {X Y : Type 0} (f : X → Y) (xs : List X) → length (map f xs) ≡ length xs
map_length f [] = refl
map_length f (x ∷ xs) = ap suc (map_length f xs)

pub all_map : {X Y : Type 0} (P : Y → Type 0) (Q : X → Type 0) (f : X → Y) (xs : List X) → ((x : X) → Q x → P (f x)) → AllByRecursion Q xs → AllByRecursion P (map f xs)
all_map P Q f [] h all = tt
all_map P Q f (x ∷ xs) h all = (h x all.0, all_map P Q f xs h all.1)

-- one more element, made of the next one of a list
pub one_more : {X Y : Type 0} (field : Y → FieldNames) (f : X → Y) (xs : List X) (i : ℕ) (x : X) → i < length xs → x ≡ get_or xs i x
    → first_of_each field (map f (take (i + 1) xs))
    ≡ first_of_each field (map f (take i xs)) ++ cond (wrote field (map f (take i xs)) (field (f x))) [] (f x ∷ [])
one_more field f xs i x h is =
    ap (λ l. first_of_each field (map f l)) (take_more xs i x h ∙ ap (λ u. take i xs ++ u ∷ []) (sym is))
    ∙ ap (first_of_each field) (map_plus f (take i xs) (x ∷ []))
    ∙ first_snoc field (map f (take i xs)) (f x)

-- a list of one element
pub one_alone : {X : Type 0} (xs : List X) (x : X) → 1 ≤ length xs → length xs < 2 → x ≡ get_or xs 0 x → xs ≡ x ∷ []
one_alone [] x some few is = absurd (omega (arith, some))
one_alone (y ∷ []) x some few is = ap (λ z. z ∷ []) (sym is)
one_alone (y ∷ z ∷ zs) x some few is = absurd (omega (arith, few))
