-- Tests on texts, options and truth values.
use Rattle.std.proofs.Common.{◌≡◌, Bool, true, false, cond, List, [], ◌∷◌, ◌++◌, Option, Some, None, refl, ap, sym, ◌∙◌, subst}
use Rattle.std.specs.Prelude.{◌≢◌, ◌&&◌, ◌||◌, not, option_to_list}
use Rattle.finite_sums.specs.Maps.{Text, text_cmp, some_and, is_among}
use Rattle.finite_sums.proofs.Texts.{text_total, text_same}
use Rattle.book_rows.specs.Parts.{is_text}
use Rattle.book_edits.specs.Checks.{same_id}
use Rattle.split_transfer.specs.Pairs.{only_where}
use Rattle.std.specs.declared.cmp.Ordering.{Ordering}
use Rattle.std.specs.declared.cmp.Ordering.TheVariants.{Less, Equal, Greater}
use Rattle.std.specs.Ordering.{is_eq}
use Rattle.std.specs.Cmp.{eq_by_cmp_equiv}

is_equal : (r : Ordering) → is_eq r ≡ true → r ≡ Equal
is_equal Less h = cc
is_equal Equal h = refl
is_equal Greater h = cc

pub bool_cases : (b : Bool) {P : Type 0} → (b ≡ true → P) → (b ≡ false → P) → P
bool_cases true t f = t refl
bool_cases false t f = f refl

pub option_cases : {X P : Type 0} (o : Option X) → (o ≡ None → P) → ((x : X) → o ≡ Some x → P) → P
option_cases None n s = n refl
option_cases (Some x) n s = s x refl

pub both_true : (a b : Bool) → (a && b) ≡ true → (a ≡ true) × (b ≡ true)
both_true true b h = (refl, h)
both_true false b h = cc

pub and_both : (a b : Bool) → a ≡ true → b ≡ true → (a && b) ≡ true
and_both a b p q = rw p q

pub either : (a b : Bool) {P : Type 0} → (a || b) ≡ true → (a ≡ true → P) → (b ≡ true → P) → P
either true b h p q = p refl
either false b h p q = q h

pub or_left : (a b : Bool) → a ≡ true → (a || b) ≡ true
or_left a b h = rw h refl

pub or_right : (a b : Bool) → b ≡ true → (a || b) ≡ true
or_right true b h = refl
or_right false b h = h

pub or_more : (a b c : Bool) → (b ≡ true → c ≡ true) → (a || b) ≡ true → (a || c) ≡ true
or_more true b c f h = refl
or_more false b c f h = f h

pub not_true : (a : Bool) → not a ≡ true → a ≡ false
not_true true h = cc
not_true false h = refl

pub true_false : {P : Type 0} (b : Bool) → b ≡ true → b ≡ false → P
true_false b t f = absurd (clash (sym t ∙ f))
  where
    clash : true ≡ false → ⊥
    clash h = cc

pub none_some : {X P : Type 0} (x : X) → None ≡ Some x → P
none_some x h = absurd (clash h)
  where
    clash : None ≡ Some x → ⊥
    clash h = cc

pub some_is : {X : Type 0} (x y : X) → Some x ≡ Some y → x ≡ y
some_is x y h = cc

pub same_bool : (p q : Bool) → (p ≡ true → q ≡ true) → (q ≡ true → p ≡ true) → p ≡ q
same_bool true q f g = sym (f refl)
same_bool false true f g = g refl
same_bool false false f g = refl

-- what a choice does not change
pub of_cond : {X A : Type 0} (f : X → A) (b : Bool) (x y : X) → f y ≡ f x → f (cond b y x) ≡ f x
of_cond f true x y h = h
of_cond f false x y h = refl

pub same_refl : (a : Text) → same_id a a ≡ true
same_refl a = (eq_by_cmp_equiv text_total).refl a

pub same_is : (a b : Text) → same_id a b ≡ true → a ≡ b
same_is a b h = text_same a b (is_equal _ h)

pub not_same : (a b : Text) → a ≢ b → same_id a b ≡ false
not_same a b h = bool_cases (same_id a b) (λ t. absurd (h (same_is a b t))) (λ f. f)

pub is_other : (a b : Text) → same_id a b ≡ false → a ≢ b
is_other a b f e = true_false (same_id a b) (subst (λ (t : Text). same_id a t ≡ true) e (same_refl a)) f

pub names_is : (o : Option Text) (id : Text) → is_text id o ≡ true → o ≡ Some id
names_is None id h = cc
names_is (Some t) id h = ap Some (same_is t id h)

pub names_it : (o : Option Text) (id : Text) → o ≡ Some id → is_text id o ≡ true
names_it o id h = rw h (same_refl id)

pub holds_some : {X : Type 0} (p : X → Bool) (o : Option X) → some_and p o ≡ true → (x : X) × (o ≡ Some x) × (p x ≡ true)
holds_some p None h = absurd (clash h)
  where
    clash : false ≡ true → ⊥
    clash h = cc
holds_some p (Some x) h = (x, refl, h)

pub where_some : {X : Type 0} (p : X → Bool) (o : Option X) (x : X) → only_where p o ≡ Some x → (o ≡ Some x) × (p x ≡ true)
where_some p None x h = none_some x h
where_some p (Some y) x h = bool_cases (p y) (λ t. yes t) (λ f. none_some x (no f))
  where
    yes : p y ≡ true → (Some y ≡ Some x) × (p x ≡ true)
    yes t = let e : Some y ≡ Some x = ap (λ b. cond b (Some y) None) (sym t) ∙ h in (e, ap p (sym (some_is y x e)) ∙ t)

    no : p y ≡ false → None ≡ Some x
    no f = ap (λ b. cond b (Some y) None) (sym f) ∙ h

pub among-append : (a b : List Text) (q : Text) → is_among text_cmp (a ++ b) q ≡ (is_among text_cmp a q || is_among text_cmp b q)
among-append [] b q = refl
among-append (x ∷ a) b q = ap (λ t. same_id q x || t) (among-append a b q) ∙ assoc (same_id q x) (is_among text_cmp a q) (is_among text_cmp b q)
  where
    assoc : (x y z : Bool) → (x || (y || z)) ≡ ((x || y) || z)
    assoc true y z = refl
    assoc false y z = refl

pub or_false : (a : Bool) → (a || false) ≡ a
or_false true = refl
or_false false = refl

pub among-option_to_list : (o : Option Text) (q : Text) → is_among text_cmp (option_to_list o) q ≡ true → o ≡ Some q
among-option_to_list None q h = cc
among-option_to_list (Some t) q h = ap Some (sym (same_is q t (sym (or_false _) ∙ h)))
