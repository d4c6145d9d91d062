-- Categories among those of groups.
use Rattle.std.proofs.Common.{◌≡◌, Bool, true, false, cond, List, [], ◌∷◌, ◌++◌, refl, ap, sym, ◌∙◌, arith}
use Rattle.std.specs.Prelude.{◌||◌}
use lib.IntN.{ℤ}
use Rattle.std.proofs.lemmas.Int.{ints}
use Rattle.std.specs.List.{filter}
use Rattle.std.specs.Ordering.{eq_by_cmp, is_eq}
use Rattle.std.specs.declared.cmp.Ordering.{Ordering}
use Rattle.std.specs.declared.cmp.Ordering.TheVariants.{Less, Equal, Greater}
use Rattle.std.specs.Cmp.{eq_by_cmp_equiv}
use Rattle.finite_sums.specs.Sums.{total}
use Rattle.finite_sums.specs.Maps.{Text, text_cmp, is_among}
use Rattle.finite_sums.proofs.Texts.{text_total, text_same}
use Rattle.envelope_cells.specs.Budget.{categories_of}
use Rattle.envelope_cells.specs.declared.groups.BudgetGroup.{BudgetGroup}

is_equal : (r : Ordering) → is_eq r ≡ true → r ≡ Equal
is_equal Less h = cc
is_equal Equal h = refl
is_equal Greater h = cc

-- texts that are the same in their order are equal
pub same_texts : (p q : Text) → eq_by_cmp text_cmp p q ≡ true → p ≡ q
same_texts p q h = text_same p q (is_equal (text_cmp p q) h)

pub itself : (q : Text) → eq_by_cmp text_cmp q q ≡ true
itself q = (eq_by_cmp_equiv text_total).refl q

pub or_left : (a b : Bool) → a ≡ true → (a || b) ≡ true
or_left a b h = rw h

pub or_right : (a b : Bool) → b ≡ true → (a || b) ≡ true
or_right true b h = refl
or_right false b h = h

pub or_either : (a b : Bool) {P : Type 0} → (a || b) ≡ true → (a ≡ true → P) → (b ≡ true → P) → P
or_either true b h f g = f refl
or_either false b h f g = g h

or_assoc : (a b c : Bool) → ((a || b) || c) ≡ (a || (b || c))
or_assoc true b c = refl
or_assoc false b c = refl

pub among-append : (xs ys : List Text) (q : Text) → is_among text_cmp (xs ++ ys) q ≡ (is_among text_cmp xs q || is_among text_cmp ys q)
among-append [] ys q = refl
among-append (x ∷ xs) ys q = ap (λ t. eq_by_cmp text_cmp q x || t) (among-append xs ys q) ∙ sym (or_assoc (eq_by_cmp text_cmp q x) (is_among text_cmp xs q) (is_among text_cmp ys q))

pub in_front : (xs ys : List Text) (q : Text) → is_among text_cmp xs q ≡ true → is_among text_cmp (xs ++ ys) q ≡ true
in_front xs ys q h = among-append xs ys q ∙ or_left _ _ h

pub in_back : (xs ys : List Text) (q : Text) → is_among text_cmp ys q ≡ true → is_among text_cmp (xs ++ ys) q ≡ true
in_back xs ys q h = among-append xs ys q ∙ or_right (is_among text_cmp xs q) (is_among text_cmp ys q) h

-- a category of some of the groups is one of the groups
pub of_some : (p : BudgetGroup → Bool) (gs : List BudgetGroup) (q : Text) → is_among text_cmp (categories_of (filter p gs)) q ≡ true → is_among text_cmp (categories_of gs) q ≡ true
of_some p [] q h = h
of_some p (g ∷ gs) q h = by (p g) (of_some p gs q) h
  where
    by : (t : Bool) → (is_among text_cmp (categories_of (filter p gs)) q ≡ true → is_among text_cmp (categories_of gs) q ≡ true) → is_among text_cmp (categories_of (cond t (g ∷ filter p gs) (filter p gs))) q ≡ true → is_among text_cmp (g.categories ++ categories_of gs) q ≡ true
    by true r h = or_either (is_among text_cmp g.categories q) (is_among text_cmp (categories_of (filter p gs)) q) (sym (among-append g.categories (categories_of (filter p gs)) q) ∙ h)
        (λ k. in_front g.categories (categories_of gs) q k) (λ k. in_back g.categories (categories_of gs) q (r k))
    by false r h = in_back g.categories (categories_of gs) q (r h)

-- addends that agree at each element
pub total_on : (f g : Text → ℤ) (xs : List Text) → ((q : Text) → is_among text_cmp xs q ≡ true → f q ≡ g q) → total f xs ≡ total g xs
total_on f g [] h = refl
total_on f g (x ∷ xs) h = omega (arith, ints, h x (or_left _ (is_among text_cmp xs x) (itself x)), total_on f g xs (λ q k. h q (or_right (eq_by_cmp text_cmp q x) _ k)))
