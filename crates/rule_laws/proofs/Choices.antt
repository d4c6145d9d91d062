-- What follows where a choice gives something, and what a member of a list is.
use Rattle.std.proofs.Common.{◌≡◌, ℕ, zero, suc, ◌<◌, Bool, true, false, List, [], ◌∷◌, length, get_or, Option, Some, None, option_map, option_and_then, inl, inr, refl, sym, subst, arith}
use Rattle.std.specs.Prelude.{◌⊎◌, ◌||◌, if◌then◌else◌}
use Rattle.std.specs.List.{Contains, AllByRecursion}
use Rattle.std.specs.Str.{bytes_eq}
use Rattle.std.proofs.lemmas.Bool.{or_cases}
use Rattle.std.proofs.lemmas.Slice.Eq.{bytes_eq-Decides}
use Rattle.finite_sums.specs.Maps.{Text}

pub some_is : {A : Type 0} (x y : A) → Some x ≡ Some y → x ≡ y
some_is x y h = cc

pub none_is : {A P : Type 0} (x : A) → None ≡ Some x → P
none_is x h = absurd (clash h)
  where
    clash : None ≡ Some x → ⊥
    clash h = cc

pub is_false : (b : Bool) → (b ≡ true → ⊥) → b ≡ false
is_false true never = absurd (never refl)
is_false false never = refl

pub not_true : (b : Bool) → b ≡ false → b ≡ true → ⊥
not_true b f t = cc

-- ---- values that may be absent

pub mapped : {A B : Type 0} (f : A → B) (o : Option A) (y : B) → option_map f o ≡ Some y → (x : A) × (o ≡ Some x) × (f x ≡ y)
mapped f None y h = none_is y h
mapped f (Some x) y h = (x, refl, some_is (f x) y h)

pub then_some : {A B : Type 0} (f : A → Option B) (o : Option A) (y : B) → option_and_then f o ≡ Some y → (x : A) × (o ≡ Some x) × (f x ≡ Some y)
then_some f None y h = none_is y h
then_some f (Some x) y h = (x, refl, h)

-- ---- choices

pub branch : {A : Type 0} (b : Bool) (x rest : Option A) (a : A) → (if b then x else rest) ≡ Some a → ((b ≡ true) × (x ≡ Some a)) ⊎ (rest ≡ Some a)
branch true x rest a h = inl (refl, h)
branch false x rest a h = inr h

pub only : {A : Type 0} (b : Bool) (x : Option A) (a : A) → (if b then x else None) ≡ Some a → (b ≡ true) × (x ≡ Some a)
only true x a h = (refl, h)
only false x a h = none_is a h

pub chosen : {A : Type 0} (b : Bool) (x : A) (rest : Option A) (a : A) → (if b then Some x else rest) ≡ Some a → ((b ≡ true) × (x ≡ a)) ⊎ (rest ≡ Some a)
chosen true x rest a h = inl (refl, some_is x a h)
chosen false x rest a h = inr h

-- ---- texts

pub text_eq : (a b : Text) → bytes_eq a b ≡ true → a ≡ b
text_eq a b h = (bytes_eq-Decides a b).0 h

pub eq_text : (a b : Text) → a ≡ b → bytes_eq a b ≡ true
eq_text a b h = (bytes_eq-Decides a b).1 h

-- ---- members

pub here : {A : Type 0} (x : A) (xs : List A) → Contains (x ∷ xs) x
here x xs = (0, omega arith, refl)

pub there : {A : Type 0} (x : A) (xs : List A) (q : A) → Contains xs q → Contains (x ∷ xs) q
there x xs q c = (suc c.0, omega (arith, c.1), c.2)

pub first_or_rest : {A : Type 0} (x : A) (xs : List A) (q : A) → Contains (x ∷ xs) q → (x ≡ q) ⊎ Contains xs q
first_or_rest x xs q c = by_place c.0 c.1 c.2
  where
    by_place : (k : ℕ) → k < length (x ∷ xs) → get_or (x ∷ xs) k q ≡ q → (x ≡ q) ⊎ Contains xs q
    by_place zero h e = inl e
    by_place (suc k) h e = inr (k, omega arith, e)

pub nothing_in : {A : Type 0} (q : A) → Contains [] q → ⊥
nothing_in q c = omega (arith, c.1)

-- what holds of each member holds of one
pub each_of : {A : Type 0} (P : A → Type 0) (xs : List A) (q : A) → AllByRecursion P xs → Contains xs q → P q
each_of P [] q all c = absurd (nothing_in q c)
each_of P (x ∷ xs) q all c = elim (first_or_rest x xs q c) [ inl e ↦ subst P e all.0 | inr r ↦ each_of P xs q all.1 r ]

pub is_one : (t a : Text) → bytes_eq t a ≡ true → Contains (a ∷ []) t
is_one t a h = subst (λ q. Contains (a ∷ []) q) (sym (text_eq t a h)) (here a [])

pub is_one_of_two : (t a b : Text) → (bytes_eq t a || bytes_eq t b) ≡ true → Contains (a ∷ b ∷ []) t
is_one_of_two t a b h = elim (or_cases (bytes_eq t a) (bytes_eq t b) h) [
  | inl p ↦ subst (λ q. Contains (a ∷ b ∷ []) q) (sym (text_eq t a p)) (here a (b ∷ []))
  | inr p ↦ subst (λ q. Contains (a ∷ b ∷ []) q) (sym (text_eq t b p)) (there a (b ∷ []) b (here b []))
]
