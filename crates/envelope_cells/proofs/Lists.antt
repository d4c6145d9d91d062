-- Loops over lists: what is done, and what the elements that are left still add.
use Rattle.std.proofs.Common.{◌≡◌, ℕ, ◌+◌, ◌<◌, ◌≤◌, ◌*◌, List, [], ◌∷◌, ◌++◌, length, drop, get_or, zero, suc, refl, ap, sym, ◌∙◌, arith, add-one, append_assoc, unsigned_abs, map, Result, Ok, Err, OnOk}
use lib.IntN.{ℤ, ◌+ℤ◌}
use Rattle.std.proofs.lemmas.Int.{ints}
use Rattle.finite_sums.specs.Sums.{total, weight}

-- the elements from a place on
pub from_here : {A : Type 0} (xs : List A) (i : ℕ) (x : A) → i < length xs → x ≡ get_or xs i x → drop i xs ≡ x ∷ drop (i + 1) xs
from_here [] i x h e = absurd (omega arith)
from_here (y ∷ xs) zero x h e = ap (λ z. z ∷ xs) (sym e)
from_here (y ∷ xs) (suc i) x h e = rw add-one (rw add-one at (from_here xs i x (omega arith) e))

-- nothing is left
pub none_left : {A : Type 0} (xs : List A) (i : ℕ) → length xs ≤ i → drop i xs ≡ []
none_left [] zero h = refl
none_left [] (suc i) h = refl
none_left (x ∷ xs) zero h = absurd (omega arith)
none_left (x ∷ xs) (suc i) h = none_left xs i (omega arith)

append-nil : {A : Type 0} (xs : List A) → xs ++ [] ≡ xs
append-nil [] = refl
append-nil (x ∷ xs) = ap (λ ys. x ∷ ys) (append-nil xs)

-- one list after the other
module _ {A X : Type 0} (F : List A → List X) (f : A → List X) where
  pub turn : (step : (x : A) (xs : List A) → F (x ∷ xs) ≡ f x ++ F xs) (done all : List X) (xs : List A) (i : ℕ) (x : A) → i < length xs → x ≡ get_or xs i x → done ++ F (drop i xs) ≡ all → (done ++ f x) ++ F (drop (i + 1) xs) ≡ all
  turn step done all xs i x h e inv =
      append_assoc done (f x) (F (drop (i + 1) xs))
      ∙ ap (λ ys. done ++ ys) (sym (step x (drop (i + 1) xs)) ∙ ap F (sym (from_here xs i x h e)))
      ∙ inv

pub ended : {A X : Type 0} (F : List A → List X) (done all : List X) (xs : List A) (i : ℕ) → F [] ≡ [] → length xs ≤ i → done ++ F (drop i xs) ≡ all → done ≡ all
ended F done all xs i n h inv = sym (append-nil done) ∙ ap (λ ys. done ++ ys) (sym (ap F (none_left xs i h) ∙ n)) ∙ inv

-- sums
pub sum_turn : {A : Type 0} (f : A → ℤ) (sum all : ℤ) (xs : List A) (i : ℕ) (x : A) → i < length xs → x ≡ get_or xs i x → sum +ℤ total f (drop i xs) ≡ all → (sum +ℤ f x) +ℤ total f (drop (i + 1) xs) ≡ all
sum_turn f sum all xs i x h e inv = omega (arith, ints, inv, ap (total f) (from_here xs i x h e))

pub sum_ended : {A : Type 0} (f : A → ℤ) (sum all : ℤ) (xs : List A) (i : ℕ) → length xs ≤ i → sum +ℤ total f (drop i xs) ≡ all → sum ≡ all
sum_ended f sum all xs i h inv = omega (arith, ints, inv, ap (total f) (none_left xs i h))

-- a sum is no greater than its weight
pub total_within : {A : Type 0} (f : A → ℤ) (w : A → ℕ) (xs : List A) → ((x : A) → unsigned_abs (f x) ≤ w x) → unsigned_abs (total f xs) ≤ weight w xs
total_within f w [] h = omega (arith, ints)
total_within f w (x ∷ xs) h = omega (arith, ints, h x, total_within f w xs h)

pub weight_rest : {A : Type 0} (w : A → ℕ) (xs : List A) (i : ℕ) → weight w (drop i xs) ≤ weight w xs
weight_rest w [] zero = omega arith
weight_rest w [] (suc i) = omega arith
weight_rest w (x ∷ xs) zero = omega arith
weight_rest w (x ∷ xs) (suc i) = omega (arith, weight_rest w xs i)

pub weight_here : {A : Type 0} (w : A → ℕ) (xs : List A) (i : ℕ) (x : A) → i < length xs → x ≡ get_or xs i x → w x ≤ weight w xs
weight_here w [] i x h e = absurd (omega arith)
weight_here w (y ∷ xs) zero x h e = omega (arith, ap w e)
weight_here w (y ∷ xs) (suc i) x h e = omega (arith, weight_here w xs i x (omega arith) e)

pub weight_le : {A : Type 0} (f g : A → ℕ) (xs : List A) → ((x : A) → f x ≤ g x) → weight f xs ≤ weight g xs
weight_le f g [] h = omega arith
weight_le f g (x ∷ xs) h = omega (arith, h x, weight_le f g xs h)

pub weight-append : {A : Type 0} (f : A → ℕ) (xs ys : List A) → weight f (xs ++ ys) ≡ weight f xs + weight f ys
weight-append f [] ys = omega arith
weight-append f (x ∷ xs) ys = omega (arith, weight-append f xs ys)

pub weight-map : {A X : Type 0} (f : X → ℕ) (g : A → X) (xs : List A) → weight f (map g xs) ≡ weight (λ x. f (g x)) xs
weight-map f g [] = refl
weight-map f g (x ∷ xs) = ap (λ n. f (g x) + n) (weight-map f g xs)

pub total-map : {A X : Type 0} (f : X → ℤ) (g : A → X) (xs : List A) → total f (map g xs) ≡ total (λ x. f (g x)) xs
total-map f g [] = refl
total-map f g (x ∷ xs) = ap (λ z. f (g x) +ℤ z) (total-map f g xs)

-- the sum that a loop has so far is at most twice the weight of the list
pub sum_small : {A : Type 0} (f : A → ℤ) (sum : ℤ) (xs : List A) (i : ℕ) → sum +ℤ total f (drop i xs) ≡ total f xs → unsigned_abs sum ≤ 2 * weight (λ x. unsigned_abs (f x)) xs
sum_small f sum xs i inv =
    omega (arith, ints, inv, total_within f (λ x. unsigned_abs (f x)) xs (λ x. omega arith), total_within f (λ x. unsigned_abs (f x)) (drop i xs) (λ x. omega arith), weight_rest (λ x. unsigned_abs (f x)) xs i)

pub sum_within : {A : Type 0} (f : A → ℤ) (w : A → ℕ) → ((x : A) → unsigned_abs (f x) ≤ w x) → (sum : ℤ) (xs : List A) (i : ℕ) → sum +ℤ total f (drop i xs) ≡ total f xs → unsigned_abs sum ≤ 2 * weight w xs
sum_within f w h sum xs i inv = omega (arith, ints, inv, total_within f w xs h, total_within f w (drop i xs) h, weight_rest w xs i)

-- several elements, one after the other
ahead : {X : Type 0} (xs : List X) (a : X) (ys : List X) → (xs ++ a ∷ []) ++ ys ≡ xs ++ a ∷ ys
ahead xs a ys = append_assoc xs (a ∷ []) ys

pub four_more : {X : Type 0} (x0 x1 x2 x3 x4 : List X) (a b c d : X) → x1 ≡ x0 ++ a ∷ [] → x2 ≡ x1 ++ b ∷ [] → x3 ≡ x2 ++ c ∷ [] → x4 ≡ x3 ++ d ∷ [] → x4 ≡ x0 ++ a ∷ b ∷ c ∷ d ∷ []
four_more x0 x1 x2 x3 x4 a b c d p q r s =
    s ∙ ap (λ xs. xs ++ d ∷ []) r ∙ ahead x2 c (d ∷ [])
    ∙ ap (λ xs. xs ++ c ∷ d ∷ []) q ∙ ahead x1 b (c ∷ d ∷ [])
    ∙ ap (λ xs. xs ++ b ∷ c ∷ d ∷ []) p ∙ ahead x0 a (b ∷ c ∷ d ∷ [])

pub five_more : {X : Type 0} (x0 x1 x2 x3 x4 x5 : List X) (a b c d e : X) → x1 ≡ x0 ++ a ∷ [] → x2 ≡ x1 ++ b ∷ [] → x3 ≡ x2 ++ c ∷ [] → x4 ≡ x3 ++ d ∷ [] → x5 ≡ x4 ++ e ∷ [] → x5 ≡ x0 ++ a ∷ b ∷ c ∷ d ∷ e ∷ []
five_more x0 x1 x2 x3 x4 x5 a b c d e p q r s t =
    t ∙ ap (λ xs. xs ++ e ∷ []) (four_more x0 x1 x2 x3 x4 a b c d p q r s) ∙ append_assoc x0 (a ∷ b ∷ c ∷ d ∷ []) (e ∷ [])

pub where_ok : {T E : Type 0} {P Q : Type 0} (r : Result T E) → (P → Q) → OnOk r P → OnOk r Q
where_ok (Ok x) f h = f h
where_ok (Err e) f h = h
